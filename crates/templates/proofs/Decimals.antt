-- Decimal numbers: their digits one by one. Assumes nothing.
use mathlib.Core.Path.{◌≡◌, refl, ap, sym, ◌∙◌}
use mathlib.Core.Bool.{Bool, true, false}
use mathlib.Core.List.{List, [], ◌∷◌, ◌++◌}
use mathlib.Core.Logic.{◌⊎◌, ⊎_elim, inl, inr}
use Prim.Native.Nat.{ℕ, zero, suc, ◌+◌, ◌/◌, ◌%◌, ◌^◌, ◌≤◌, ◌<◌}
use native.Mathlib.Nat.{pow-succ'}
use native.Mathlib.Omega.{arith}
use borrow.Author.Tests.{ltb-true, ltb-false, lt-ltb, le-ltb}
use lib.Dec.{ltb}
use lib.ListN.{length, length-append}
use Rattle.templates.specs.FieldText.{decimal_in, decimal}

by_test : (a b : ℕ) (t : Bool) → ltb a b ≡ t → (a < b) ⊎ (b ≤ a)
by_test a b true e = inl (ltb-true a b e)
by_test a b false e = inr (ltb-false a b e)

pub lt_or_ge : (a b : ℕ) → (a < b) ⊎ (b ≤ a)
lt_or_ge a b = by_test a b (ltb a b) refl

pub one_digit : (n v : ℕ) → v < 10 → decimal_in (suc n) v ≡ (48 + v) ∷ []
unfolding decimal_in
one_digit n v h = simp (lt-ltb v 10 h)

pub last_digit : (n v : ℕ) → 10 ≤ v → decimal_in (suc n) v ≡ decimal_in n (v / 10) ++ ((48 + v % 10) ∷ [])
unfolding decimal_in
last_digit n v h = simp (le-ltb v 10 h)

pub fewer : (n v : ℕ) → v < 10 ^ suc (suc n) → v / 10 < 10 ^ suc n
fewer n v h = let e = pow-succ' 10 (suc n) in omega arith

-- a place more in front of a number that has enough leaves it as it is
more_places : (n v : ℕ) → v < 10 ^ suc n → decimal_in (suc (suc n)) v ≡ decimal_in (suc n) v
more_places zero v h = let k : v < 10 = h in one_digit 1 v k ∙ sym (one_digit 0 v k)
more_places (suc n) v h =
    ⊎_elim
    (λ k. one_digit (suc (suc n)) v k ∙ sym (one_digit (suc n) v k))
    (λ k. last_digit (suc (suc n)) v k
    ∙ ap (λ (l : List ℕ). l ++ ((48 + v % 10) ∷ [])) (more_places n (v / 10) (fewer n v h))
    ∙ sym (last_digit (suc n) v k))
    (lt_or_ge v 10)

tenth : (v : ℕ) → v < 2 ^ 64 → decimal (v / 10) ≡ decimal_in 19 (v / 10)
unfolding decimal
tenth v h = more_places 18 (v / 10) (omega arith)

-- a number's digits are those of its tenth, and the last one
pub decimal_one : (v : ℕ) → v < 10 → decimal v ≡ (48 + v) ∷ []
unfolding decimal
decimal_one v h = one_digit 19 v h

behind_tenth : (v : ℕ) → 10 ≤ v → decimal v ≡ decimal_in 19 (v / 10) ++ ((48 + v % 10) ∷ [])
unfolding decimal
behind_tenth v h = last_digit 19 v h

pub decimal_last : (v : ℕ) → 10 ≤ v → v < 2 ^ 64 → decimal v ≡ decimal (v / 10) ++ ((48 + v % 10) ∷ [])
decimal_last v h k = behind_tenth v h ∙ ap (λ (l : List ℕ). l ++ ((48 + v % 10) ∷ [])) (sym (tenth v k))

no_places : (v : ℕ) → length (decimal_in zero v) ≤ 0
unfolding decimal_in
no_places v = omega arith

in_places : (n v : ℕ) → length (decimal_in n v) ≤ n
in_places zero v = no_places v
in_places (suc n) v =
    ⊎_elim
    (λ k. rw (one_digit n v k) (omega arith))
    (λ k. rw (last_digit n v k, length-append) (omega (arith, in_places n (v / 10))))
    (lt_or_ge v 10)

pub decimal_short : (v : ℕ) → length (decimal v) ≤ 20
unfolding decimal
decimal_short v = in_places 20 v

pub tenth_short : (v : ℕ) → v < 2 ^ 64 → length (decimal (v / 10)) ≤ 19
tenth_short v h = rw (tenth v h) (in_places 19 (v / 10))
