-- The lines of a.s file, read one after another. Assumes nothing.
use Rattle.std.proofs.Common.{Ok, Err}
use Prim.Native.Nat.{ℕ, ◌+◌, ◌≤◌, ◌<◌}
use mathlib.Core.List.{List, [], ◌∷◌, ◌++◌, append_assoc, append-nil}
use mathlib.Core.Path.{◌≡◌, refl, sym, ap, ◌∙◌}
use native.Mathlib.Numerals.{add-one}
use borrow.Author.Tests.{le-leb, lt-leb}
use lib.ListN.{length, set, take}
use lib.Seq.{take-suc-set}
use Rattle.assembly.specs.Answers.{Outcome}
use Rattle.assembly.specs.Assembling.{before, content_at, numbers_from}
use Rattle.assembly.specs.declared.reader.Content.TheVariants.{Passed, Number, Unexpected}
use Rattle.assembly.specs.declared.Refusal.TheVariants.{Wrong}

-- numbers that were read before those of the others
abbrev pub behind : List ℕ → Outcome → Outcome
behind v (Ok vs) = Ok (v ++ vs)
behind v (Err why) = Err why

behind_none : (o : Outcome) → behind [] o ≡ o
behind_none (Ok vs) = refl
behind_none (Err why) = refl

behind_one : (vs : List ℕ) (v : ℕ) (o : Outcome) → behind vs (before v o) ≡ behind (vs ++ (v ∷ [])) o
behind_one vs v (Ok ws) = rw append_assoc
behind_one vs v (Err why) = refl

-- a turn, by what the line says
module _ (number i at : ℕ) (line : List ℕ) (lines : List (List ℕ)) where
  pub line_passed : content_at i line ≡ Passed → numbers_from number i at (line ∷ lines) ≡ numbers_from (number + 1) i (at + length line) lines
  unfolding numbers_from
  line_passed e = rw (e, numbers_from)

  pub line_number : (v : ℕ) → content_at i line ≡ Number v
      → numbers_from number i at (line ∷ lines) ≡ before v (numbers_from (number + 1) (i + 1) (at + length line) lines)
  unfolding numbers_from
  line_number v e = rw (e, numbers_from)

  pub line_unexpected : content_at i line ≡ Unexpected → numbers_from number i at (line ∷ lines) ≡ Err (Wrong number i at)
  unfolding numbers_from
  line_unexpected e = rw (e, numbers_from)

module _ (number i at : ℕ) where
  pub lines_done : 9 ≤ i → numbers_from number i at [] ≡ Ok []
  unfolding numbers_from
  lines_done h = rw (le-leb 9 i h)

  pub line_missing : i < 9 → numbers_from number i at [] ≡ Err (Wrong number i at)
  unfolding numbers_from
  line_missing h = rw (lt-leb 9 i h)

-- with i numbers read, those at the front of vs, the lines that are left decide what all say
abbrev pub Reached : List (List ℕ) → List (List ℕ) → ℕ → ℕ → ℕ → List ℕ → Type 0
Reached all lines number i at vs = behind (take i vs) (numbers_from number i at lines) ≡ numbers_from 1 0 0 all

pub reached_start : (all lines : List (List ℕ)) (vs : List ℕ) → lines ≡ all → Reached all lines 1 0 0 vs
reached_start all lines vs e = rw e (behind_none (numbers_from 1 0 0 all))

module _ (all before : List (List ℕ)) (number i at : ℕ) (vs : List ℕ) (reached : Reached all before number i at vs) where
  -- at a line
  module _ (line : List ℕ) (lines : List (List ℕ)) (e : before ≡ line ∷ lines) where
    here : Reached all (line ∷ lines) number i at vs
    here = rw (← e) reached

    pub reached_passed : content_at i line ≡ Passed → Reached all lines (number + 1) i (at + length line) vs
    reached_passed q = ap (behind (take i vs)) (sym (line_passed number i at line lines q)) ∙ here

    pub reached_number : (v : ℕ) → content_at i line ≡ Number v → i < length vs → Reached all lines (number + 1) (i + 1) (at + length line) (set vs i v)
    reached_number v q inside =
        rw (add-one i, take-suc-set vs i v inside, ← add-one i)
        (sym (behind_one (take i vs) v (numbers_from (number + 1) (i + 1) (at + length line) lines))
        ∙ ap (behind (take i vs)) (sym (line_number number i at line lines v q))
        ∙ here)

    pub reached_unexpected : content_at i line ≡ Unexpected → Err (Wrong number i at) ≡ numbers_from 1 0 0 all
    reached_unexpected q = ap (behind (take i vs)) (sym (line_unexpected number i at line lines q)) ∙ here

  -- at the end
  module _ (e : before ≡ []) where
    ended : Reached all [] number i at vs
    ended = rw (← e) reached

    pub reached_end : 9 ≤ i → Ok (take i vs) ≡ numbers_from 1 0 0 all
    reached_end k = ap Ok (sym (append-nil (take i vs))) ∙ ap (behind (take i vs)) (sym (lines_done number i at k)) ∙ ended

    pub reached_missing : i < 9 → Err (Wrong number i at) ≡ numbers_from 1 0 0 all
    reached_missing k = ap (behind (take i vs)) (sym (line_missing number i at k)) ∙ ended
