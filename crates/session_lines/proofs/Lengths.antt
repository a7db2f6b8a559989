-- The lengths of a session's lines. Assumes nothing.
use Prim.Native.Nat.{ℕ, zero, suc, ◌+◌, ◌≤◌, zero-le}
use mathlib.Core.List.{List, [], ◌∷◌}
use mathlib.Core.Path.{◌≡◌, refl, ap, ◌∙◌}
use native.Mathlib.Omega.{arith}
use lib.ListN.{length, length-append}
use Rattle.session_lines.specs.LineFormats.{front_formats, format_of, lines_from}
use Rattle.session_lines.proofs.LineFormats.{length_for}

-- the length of the line with index i
unfoldable pub size : ℕ → ℕ
size i = length (format_of i).key + (format_of i).digits + 1

-- the length of so many lines, the first with index i
unfoldable pub span : ℕ → ℕ → ℕ
span zero i = 0
span (suc lines) i = size i + span lines (i + 1)

pub longest : span 265 0 ≡ 3732
unfolding span size format_of front_formats
longest = refl

lines_span : (i : ℕ) (v : List ℕ) → length (lines_from i v) ≡ span (length v) i
unfolding lines_from span size
lines_span i [] = refl
lines_span i (x ∷ v) = rw (length-append, length_for (format_of i) x, lines_span (i + 1) v)

span_le : (n m i : ℕ) → n ≤ m → span n i ≤ span m i
unfolding span
span_le zero m i h = zero-le
span_le (suc n) zero i h = absurd (omega arith)
span_le (suc n) (suc m) i h = omega (arith, span_le n m (i + 1) (omega arith))

-- no session is longer
pub session_room : (v : List ℕ) → length v ≤ 265 → length (lines_from 0 v) ≤ 3732
session_room v h = omega (arith, lines_span 0 v, span_le (length v) 265 0 h, longest)

nine_span : span 9 0 ≡ 148
unfolding span size format_of front_formats
nine_span = refl

-- the nine lines
pub front_long : (v : List ℕ) → length v ≡ 9 → length (lines_from 0 v) ≡ 148
front_long v h = lines_span 0 v ∙ ap (λ (n : ℕ). span n 0) h ∙ nine_span
