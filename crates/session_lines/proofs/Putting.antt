-- The lines of a session, put one after another. Assumes nothing.
use Prim.Native.Nat.{ℕ, ◌+◌, ◌≤◌, ◌<◌}
use mathlib.Core.List.{List, [], ◌++◌}
use mathlib.Core.Path.{◌≡◌, refl, ap, sym, ◌∙◌}
use native.Mathlib.Numerals.{add-one}
use lib.ListN.{length, get_or, drop, drop_of_length-le, length-append}
use lib.Seq.{sets, drop-cons}
use Rattle.text.proofs.Writing.{after}
use Rattle.session_lines.specs.LineFormats.{format_of, line_for, lines_from}

pub no_more : (i : ℕ) (v : List ℕ) → length v ≤ i → lines_from i (drop i v) ≡ []
unfolding lines_from
no_more i v h = rw (drop_of_length-le v h)

-- one line more
module _ (i : ℕ) (v : List ℕ) (h : i < length v) where
  next_line : lines_from i (drop i v) ≡ line_for (format_of i) (get_or v i 0) ++ lines_from (i + 1) (drop (i + 1) v)
  unfolding lines_from
  next_line =
      ap (lines_from i) (drop-cons v i 0 h)
      ∙ ap (λ (k : ℕ). line_for (format_of i) (get_or v i 0) ++ lines_from (i + 1) (drop k v)) (sym (add-one i))

  pub lines_left : length (lines_from i (drop i v)) ≡ length (line_for (format_of i) (get_or v i 0)) + length (lines_from (i + 1) (drop (i + 1) v))
  lines_left = ap length next_line ∙ simp length-append

  pub lines_turn : (out : List ℕ) (at : ℕ) (out₁ : List ℕ) (next : ℕ) → next ≡ at + length (line_for (format_of i) (get_or v i 0))
      → out₁ ≡ sets out at (line_for (format_of i) (get_or v i 0)) → sets out at (lines_from i (drop i v)) ≡ sets out₁ next (lines_from (i + 1) (drop (i + 1) v))
  lines_turn out at out₁ next place put =
      ap (sets out at) next_line
      ∙ sym (after out at (line_for (format_of i) (get_or v i 0)) _ out₁ next (lines_from (i + 1) (drop (i + 1) v)) refl put place)
