-- The lines of a session, read one after another. Assumes nothing.
use Prim.Native.Nat.{ℕ, suc, ◌+◌, ◌-◌, ◌≤◌, ◌<◌}
use mathlib.Core.Bool.{Bool, true, false, ◌&&◌, and-eq-true_iff}
use mathlib.Core.List.{List, [], ◌∷◌, ◌++◌, append_assoc, append-nil}
use mathlib.Core.Path.{◌≡◌, refl, sym, ap, ◌∙◌}
use native.Mathlib.Numerals.{add-one}
use native.Mathlib.Omega.{arith}
use borrow.Author.Tests.{le-leb, lt-leb, leb-true}
use lib.Dec.{leb}
use lib.ListN.{length, set, take}
use lib.Seq.{take-suc-set}
use Rattle.std.proofs.Common.{None}
use Rattle.text.specs.Lines.{is_line}
use Rattle.session_lines.specs.LineFormats.{format_of}
use Rattle.session_lines.specs.Parsing.{Parsed, good, bad, before, ended, line_of, parse_lines, parsed}

-- numbers that were read before those of the others
abbrev pub behind : List ℕ → Parsed → Parsed
behind v (good vs) = good (v ++ vs)
behind v (bad number) = bad number

behind_none : (p : Parsed) → behind [] p ≡ p
behind_none (good vs) = refl
behind_none (bad number) = refl

behind_one : (vs : List ℕ) (v : ℕ) (p : Parsed) → behind vs (before v p) ≡ behind (vs ++ (v ∷ [])) p
behind_one vs v (good ws) = rw append_assoc
behind_one vs v (bad number) = refl

-- a turn, by what stands at the place
module _ (allowed i : ℕ) (s : List ℕ) (at : ℕ) where
  pub all_read : leb 9 i && ended s at ≡ true → parse_lines (suc allowed) i s at ≡ good []
  unfolding parse_lines
  all_read e = rw e

  module _ (e : leb 9 i && ended s at ≡ false) where
    pub one_read : (v next : ℕ) → line_of (format_of i) s at ≡ is_line v next → parse_lines (suc allowed) i s at ≡ before v (parse_lines allowed (i + 1) s next)
    unfolding parse_lines
    one_read v next q = rw (e, q, parse_lines)

    pub one_wrong : line_of (format_of i) s at ≡ None → parse_lines (suc allowed) i s at ≡ bad (i + 1)
    unfolding parse_lines
    one_wrong q = rw (e, q, parse_lines)

module _ (i : ℕ) (s : List ℕ) (at : ℕ) where
  pub at_end : length s ≤ at → parse_lines 0 i s at ≡ good []
  unfolding parse_lines
  at_end h = rw (le-leb _ _ h)

  pub extra : at < length s → parse_lines 0 i s at ≡ bad (i + 1)
  unfolding parse_lines
  extra h = rw (lt-leb _ _ h)

-- a text may end behind the nine lines only
pub nine_on : (i : ℕ) (b : Bool) → leb 9 i && b ≡ true → 9 ≤ i
nine_on i b e = leb-true 9 i ((and-eq-true_iff (leb 9 i) b).0 e).0

-- with i lines read, whose numbers stand at the front of vs: the rest decides
abbrev pub Reached : List ℕ → ℕ → ℕ → List ℕ → Type 0
Reached s at i vs = behind (take i vs) (parse_lines (265 - i) i s at) ≡ parsed s

pub reached_start : (s vs : List ℕ) → Reached s 0 0 vs
reached_start s vs = behind_none (parsed s)

module _ (s : List ℕ) (at i : ℕ) (vs : List ℕ) (h : i < 265) (reached : Reached s at i vs) where
  left : 265 - i ≡ suc (265 - (i + 1))
  left = omega arith

  pub reached_all : leb 9 i && ended s at ≡ true → good (take i vs) ≡ parsed s
  reached_all e =
      ap good (sym (append-nil (take i vs)))
      ∙ ap (behind (take i vs)) (sym (ap (λ (k : ℕ). parse_lines k i s at) left ∙ all_read (265 - (i + 1)) i s at e))
      ∙ reached

  module _ (e : leb 9 i && ended s at ≡ false) where
    pub reached_next : (v next : ℕ) (ws : List ℕ) → line_of (format_of i) s at ≡ is_line v next → i < length vs → ws ≡ set vs i v → Reached s next (i + 1) ws
    reached_next v next ws q inside stored =
        rw (stored, add-one i, take-suc-set vs i v inside, ← add-one i)
        (sym (behind_one (take i vs) v (parse_lines (265 - (i + 1)) (i + 1) s next))
        ∙ ap (behind (take i vs)) (sym (ap (λ (k : ℕ). parse_lines k i s at) left ∙ one_read (265 - (i + 1)) i s at e v next q))
        ∙ reached)

    pub reached_wrong : line_of (format_of i) s at ≡ None → bad (i + 1) ≡ parsed s
    reached_wrong q =
        ap (behind (take i vs)) (sym (ap (λ (k : ℕ). parse_lines k i s at) left ∙ one_wrong (265 - (i + 1)) i s at e q)) ∙ reached

module _ (s : List ℕ) (at : ℕ) (vs : List ℕ) (reached : Reached s at 265 vs) where
  pub reached_end : length s ≤ at → good (take 265 vs) ≡ parsed s
  reached_end h = ap good (sym (append-nil (take 265 vs))) ∙ ap (behind (take 265 vs)) (sym (at_end 265 s at h)) ∙ reached

  pub reached_extra : at < length s → bad 266 ≡ parsed s
  reached_extra h = ap (behind (take 265 vs)) (sym (extra 265 s at h)) ∙ reached
