-- Words listed in a row, a word at a time. Assumes nothing.
use mathlib.Core.Path.{◌≡◌, refl, ap, ◌∙◌, sym}
use mathlib.Core.List.{List, [], ◌∷◌}
use Prim.Native.Nat.{ℕ, zero, suc, ◌+◌, ◌<◌}
use native.Mathlib.Nat.{not-suc-le-zero, le_of_suc-le-suc}
use native.Mathlib.Numerals.{add-one}
use lib.ListN.{length, take, get_or}
use lib.Seq.{take-length}
use Rattle.listing.specs.Writing.{Written, listed_at, listed_words}
use Rattle.listing.proofs.Lengths.{length_listed}

-- what the first i words leave
abbrev pub leaves : Written → List ℕ → ℕ → Written
leaves w xs i = listed_words w (take i xs)

pub leaves_none : (w : Written) (xs : List ℕ) → leaves w xs 0 ≡ w
unfolding listed_words
leaves_none w xs = refl

pub leaves_all : (w : Written) (xs : List ℕ) → leaves w xs (length xs) ≡ listed_words w xs
leaves_all w xs = ap (listed_words w) (take-length xs)

leaves_suc : (w : Written) (xs : List ℕ) (i : ℕ) → i < length xs → listed_at (leaves w xs i).bytes (leaves w xs i).at (get_or xs i 0) ≡ leaves w xs (suc i)
unfolding listed_words
leaves_suc w [] i h = absurd (not-suc-le-zero h)
leaves_suc w (x ∷ xs) zero h = refl
leaves_suc w (x ∷ xs) (suc i) h = leaves_suc (listed_at w.bytes w.at x) xs i (le_of_suc-le-suc h)

pub leaves_one : (w : Written) (xs : List ℕ) (i : ℕ) → i < length xs → listed_at (leaves w xs i).bytes (leaves w xs i).at (get_or xs i 0) ≡ leaves w xs (i + 1)
leaves_one w xs i h = leaves_suc w xs i h ∙ ap (leaves w xs) (sym (add-one i))

pub length_words : (w : Written) (xs : List ℕ) → length (listed_words w xs).bytes ≡ length w.bytes
unfolding listed_words
length_words w [] = refl
length_words w (x ∷ xs) = length_words (listed_at w.bytes w.at x) xs ∙ length_listed w.bytes w.at x
