-- The formats of lines, by index. Assumes nothing.
use Prim.Native.Nat.{ℕ, zero, suc, ◌+◌, ◌^◌, ◌≤◌, ◌<◌}
use mathlib.Core.Bool.{Bool, true, ◌&&◌}
use mathlib.Core.List.{List, [], ◌∷◌}
use mathlib.Core.Path.{◌≡◌, ap, refl}
use native.Mathlib.Omega.{arith}
use borrow.Author.Tests.{ltb-true, leb-true}
use Rattle.std.proofs.lemmas.Bool.{and_parts}
use lib.Dec.{ltb, leb}
use lib.ListN.{get_or-eq_default, get_or, length}
use Rattle.text.proofs.Writing.{length_line}
use Rattle.session_lines.specs.LineFormats.{LineFormat, front_formats, format_of, line_for, word_format}

-- behind the nine lines stand words
pub word_format_lem : (i : ℕ) → 9 ≤ i → format_of i ≡ word_format
unfolding format_of front_formats
word_format_lem i h = get_or-eq_default front_formats word_format h

pub word_most : (i value : ℕ) → 9 ≤ i → value ≤ (format_of i).most → value < 2 ^ 32
word_most i value h k =
    let e : (format_of i).most ≡ word_format.most = ap (λ (format : LineFormat). format.most) (word_format_lem i h) in
    omega arith

-- the largest number of each format has no more digits than its lines, which have at most sixteen: a test of the whole table, carried
-- to each format

abbrev fits : LineFormat → Bool
fits format = ltb format.most (16 ^ format.digits) && leb format.digits 16

abbrev all_fit : List LineFormat → Bool
all_fit [] = true
all_fit (format ∷ formats) = fits format && all_fit formats

each_fits : (formats : List LineFormat) (i : ℕ) → all_fit formats ≡ true → fits (get_or formats i word_format) ≡ true
each_fits [] i h = refl
each_fits (format ∷ formats) zero h = (and_parts (fits format) (all_fit formats) h).0
each_fits (format ∷ formats) (suc i) h = each_fits formats i (and_parts (fits format) (all_fit formats) h).1

pub wide : (i : ℕ) → (format_of i).most < 16 ^ (format_of i).digits
unfolding format_of front_formats
wide i = ltb-true _ _ (and_parts _ _ (each_fits front_formats i refl)).0

pub narrow : (i : ℕ) → (format_of i).digits ≤ 16
unfolding format_of front_formats
narrow i = leb-true _ _ (and_parts _ _ (each_fits front_formats i refl)).1

pub length_for : (format : LineFormat) (v : ℕ) → length (line_for format v) ≡ length format.key + format.digits + 1
length_for format v = length_line format.key format.digits v
