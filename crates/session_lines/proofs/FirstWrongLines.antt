-- The number of a bad session is that of its first wrong, missing, unended or extra line. Assumes nothing.
use Prim.Native.Nat.{ℕ, zero, suc, ◌+◌, ◌≤◌, ◌<◌, zero-le}
use mathlib.Core.Bool.{Bool, true, false, cond, ◌&&◌}
use mathlib.Core.List.{List, [], ◌∷◌, ◌++◌, append_assoc}
use mathlib.Core.Path.{◌≡◌, refl, ap, sym, ◌∙◌}
use native.Mathlib.Nat.{add-zero, zero-add}
use native.Mathlib.Omega.{arith}
use borrow.Author.Tests.{leb-false}
use lib.Dec.{leb}
use lib.ListN.{length, drop, length-append}
use Rattle.std.proofs.Common.{Option, None, Some}
use Rattle.text.specs.declared.Line.{Line}
use Rattle.text.specs.Lines.{is_line}
use Rattle.text.proofs.ExactLines.{line_exact}
use Rattle.text.proofs.Framing.{line_says}
use Rattle.text.proofs.Writing.{length_line}
use Rattle.session_lines.specs.LineFormats.{InRange, format_of, line_for, lines_from}
use Rattle.session_lines.specs.Laws.{BadIsFirst, FirstWrong}
use Rattle.session_lines.specs.Parsing.{Parsed, good, bad, before, ended, line_of, parse_lines}
use Rattle.session_lines.proofs.OnlyGoodSessions.{in_range}
use Rattle.session_lines.proofs.Parsing.{all_read, one_read, one_wrong}

-- the numbers v were read from a place on, the first of the line with index i, with so many allowed; then, at next, it went wrong
record Stopped (allowed i : ℕ) (s : List ℕ) (at : ℕ) (v : List ℕ) (next : ℕ) : Type 0 where
  range : InRange i v
  few : length v ≤ allowed
  text : drop at s ≡ lines_from i v ++ drop next s
  place : next ≡ at + length (lines_from i v)
  extra : length v ≡ allowed → next < length s
  wrong : length v < allowed → line_of (format_of (i + length v)) s next ≡ None
  needed : length v < allowed → leb 9 (i + length v) && ended s next ≡ false

abbrev IfBad : ℕ → ℕ → List ℕ → ℕ → Parsed → Type 0
IfBad allowed i s at p =
    (number : ℕ) → p ≡ bad number → (v : List ℕ) × (next : ℕ) × Stopped allowed i s at v next × (number ≡ i + length v + 1)

module _ (allowed i : ℕ) (s : List ℕ) (at : ℕ) where
  not_bad : (v : List ℕ) → IfBad allowed i s at (good v)
  not_bad v number e = cc

  -- it goes wrong at once
  stop_here : (allowed ≡ 0 → at < length s) → (0 < allowed → line_of (format_of i) s at ≡ None) → (0 < allowed → leb 9 i && ended s at ≡ false)
      → IfBad allowed i s at (bad (i + 1))
  unfolding lines_from
  stop_here extra wrong needed number e =
      let q : i + 1 ≡ number = cc in
      let stopped : Stopped allowed i s at [] at
      = record {
        range = λ j. zero-le;
        few = zero-le;
        text = refl;
        place = sym (add-zero at);
        extra = λ h. extra (sym h);
        wrong = λ h. rw add-zero (wrong h);
        needed = λ h. rw add-zero (needed h);
      } in
      ([], at, stopped, omega arith)

  module _ (x next : ℕ) (line : line_of (format_of i) s at ≡ is_line x next) where
    one_more : (v : List ℕ) (stop : ℕ) → Stopped allowed (i + 1) s next v stop → Stopped (suc allowed) i s at (x ∷ v) stop
    unfolding lines_from
    one_more v stop rest =
        let key = (format_of i).key in
        let digits = (format_of i).digits in
        let says = line_says key digits (format_of i).most s at x next line in
        let later : i + suc (length v) ≡ i + 1 + length v = omega arith in
        let long : length (line_for (format_of i) x ++ lines_from (i + 1) v) ≡ length key + digits + 1 + length (lines_from (i + 1) v)
        = simp (length-append, length_line) in
        record {
          range = in_range allowed i s at x next line v rest.range;
          few = omega (arith, rest.few);
          text = line_exact key digits (format_of i).most s at x next line
              ∙ ap (λ (l : List ℕ). line_for (format_of i) x ++ l) rest.text
              ∙ sym (append_assoc (line_for (format_of i) x) (lines_from (i + 1) v) (drop stop s));
          place = omega (arith, rest.place, says.1, long);
          extra = λ h. rest.extra (omega arith);
          wrong = λ h. rw later (rest.wrong (omega arith));
          needed = λ h. rw later (rest.needed (omega arith));
        }

    stop_behind : (p : Parsed) → IfBad allowed (i + 1) s next p → IfBad (suc allowed) i s at (before x p)
    stop_behind (good w) rest number e = cc
    stop_behind (bad m) rest number e =
        let r = rest number e in
        (x ∷ r.0, r.1, one_more r.0 r.1 r.2, omega (arith, r.3))

module _ (allowed i : ℕ) (s : List ℕ) (at : ℕ) (rest : (next : ℕ) → IfBad allowed (i + 1) s next (parse_lines allowed (i + 1) s next)) where
  stop_line : leb 9 i && ended s at ≡ false → (l : Option Line) → line_of (format_of i) s at ≡ l → IfBad (suc allowed) i s at (parse_lines (suc allowed) i s at)
  stop_line on (Some line) q =
      rw (one_read allowed i s at on line.value line.next q) (stop_behind allowed i s at line.value line.next q (parse_lines allowed (i + 1) s line.next) (rest line.next))
  stop_line on None q =
      rw (one_wrong allowed i s at on q) (stop_here (suc allowed) i s at (λ h. absurd (omega arith)) (λ h. q) (λ h. on))

  stop_turn : (b : Bool) → leb 9 i && ended s at ≡ b → IfBad (suc allowed) i s at (parse_lines (suc allowed) i s at)
  stop_turn true e = rw (all_read allowed i s at e) (not_bad (suc allowed) i s at [])
  stop_turn false e = stop_line e (line_of (format_of i) s at) refl

stop_end : (i : ℕ) (s : List ℕ) (at : ℕ) (b : Bool) → ended s at ≡ b → IfBad 0 i s at (cond b (good []) (bad (i + 1)))
stop_end i s at true e = not_bad 0 i s at []
stop_end i s at false e = stop_here 0 i s at (λ h. leb-false (length s) at e) (λ h. absurd (omega arith)) (λ h. absurd (omega arith))

stop_from : (allowed i : ℕ) (s : List ℕ) (at : ℕ) → IfBad allowed i s at (parse_lines allowed i s at)
unfolding parse_lines
stop_from zero i s at = stop_end i s at (ended s at) refl
stop_from (suc allowed) i s at = stop_turn allowed i s at (λ next. stop_from allowed (i + 1) s next) (leb 9 i && ended s at) refl

pub bad_is_first : BadIsFirst
unfolding BadIsFirst
bad_is_first s number e =
    let r = stop_from 265 0 s 0 number e in
    let stopped = r.2 in
    let first : FirstWrong s r.0 r.1
    = record {
      range = stopped.range;
      most = stopped.few;
      place = stopped.place ∙ zero-add (length (lines_from 0 r.0));
      text = stopped.text;
      extra = stopped.extra;
      wrong = λ h. rw zero-add at (stopped.wrong h);
      needed = λ h. rw zero-add at (stopped.needed h);
    } in
    (r.0, r.1, first, omega (arith, r.3))
