-- A turn of a loop over items that convert to numbers. Assumes nothing.
use Rattle.std.proofs.Common.{◌≡◌, ℕ, zero, suc, ◌+◌, ◌<◌, List, [], ◌∷◌, length, get_or, drop, map, add-one, arith}
use Rattle.checksum.specs.Checksum.{with_number, with_numbers}

turn_by : {A : Type 0} (f : A → ℕ) (l : List A) (i sum : ℕ) (x : A) → i < length l → x ≡ get_or l i x
    → with_numbers sum (drop i (map f l)) ≡ with_numbers (with_number sum (f x)) (drop (suc i) (map f l))
unfolding with_numbers
turn_by f [] i sum x h e = absurd (omega arith)
turn_by f (y ∷ l) zero sum x h e = rw e
turn_by f (y ∷ l) (suc i) sum x h e = turn_by f l i sum x (omega arith) e

pub turn : {A : Type 0} (f : A → ℕ) (l : List A) (i sum : ℕ) (x : A) → i < length l → x ≡ get_or l i x
    → with_numbers sum (drop i (map f l)) ≡ with_numbers (with_number sum (f x)) (drop (i + 1) (map f l))
turn f l i sum x h e = rw add-one (turn_by f l i sum x h e)
