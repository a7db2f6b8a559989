-- Laws of the granules that an address names. Assumes nothing.
use Rattle.std.proofs.Common.{◌≡◌, ℕ, zero, suc, ◌+◌, ◌-◌, ◌*◌, ◌/◌, ◌%◌, ◌^◌, ◌<◌, ◌≤◌, Bool, true, false, cond, ltb, leb, refl, arith, ltb-true, lt-ltb, le-leb, leb-true}
use Rattle.std.specs.Prelude.{Ok, Err}
use mathlib.Core.Bool.{and-eq-true_iff}
use Rattle.memory.specs.Locations.{location, inside, all_inside, granule_of, onward, index_of}
use Rattle.memory.specs.declared.LocateError.TheVariants.{Outside}
use Rattle.memory.proofs.Sizes.{Sized}

-- what an address inside lies between

module _ (base g address : ℕ) where
  pub inside_range : inside base g address ≡ true → (base ≤ location address) × (location address < base + 16 * g)
  inside_range e =
      let both = (and-eq-true_iff (leb base (location address)) (ltb (location address) (base + 16 * g))).0 e in
      (leb-true base (location address) both.0, ltb-true (location address) (base + 16 * g) both.1)

  inside_between : base ≤ location address → location address < base + 16 * g → inside base g address ≡ true
  inside_between low high = rw (le-leb base (location address) low, lt-ltb (location address) (base + 16 * g) high)

-- of n + 1 granules the first is inside, and so are the n that follow

pub all_first : (base g n address : ℕ) → all_inside base g (suc n) address ≡ true → inside base g address ≡ true
unfolding all_inside
all_first base g n address h = ((and-eq-true_iff (inside base g address) (all_inside base g n (onward address 16))).0 h).0

all_others : (base g n address : ℕ) → all_inside base g (suc n) address ≡ true → all_inside base g n (onward address 16) ≡ true
unfolding all_inside
all_others base g n address h = ((and-eq-true_iff (inside base g address) (all_inside base g n (onward address 16))).0 h).1

-- short of the last location, the location some bytes on is as many on
onward_location : (address amount : ℕ) → location address + amount < 2 ^ 56
    → location (onward address amount) ≡ location address + amount
onward_location address amount h = omega arith

-- an aligned address stays aligned
onward_aligned : (address : ℕ) → address % 16 ≡ 0 → onward address 16 % 16 ≡ 0
onward_aligned address z = omega arith

-- between two granules that are inside there is no wrap
next_location : (base bytes g address : ℕ) → Sized base bytes g → address % 16 ≡ 0 → inside base g address ≡ true
    → inside base g (onward address 16) ≡ true → location (onward address 16) ≡ location address + 16
next_location base bytes g address s z h k =
    let first = inside_range base g address h in
    let second = inside_range base g (onward address 16) k in
    omega arith

-- the second of two granules is the next
pub next_index : (base bytes g n address : ℕ) → Sized base bytes g → address % 16 ≡ 0
    → all_inside base g (suc (suc n)) address ≡ true → index_of base (onward address 16) ≡ index_of base address + 1
next_index base bytes g n address s z h =
    let first = all_first base g (suc n) address h in
    let second = all_first base g n (onward address 16) (all_others base g (suc n) address h) in
    rw (next_location base bytes g address s z first second) (omega (arith, inside_range base g address first))

-- granules that are inside lie below the number of granules
pub within : (base bytes g n address : ℕ) → Sized base bytes g → (2 ≤ n → address % 16 ≡ 0)
    → all_inside base g n address ≡ true → 1 ≤ n → (base ≤ location address) × (index_of base address + n ≤ g)
within base bytes g zero address s z h some = absurd (omega arith)
within base bytes g (suc zero) address s z h some =
    let range = inside_range base g address (all_first base g zero address h) in (range.0, omega arith)
within base bytes g (suc (suc n)) address s z h some =
    let aligned = z (omega arith) in
    let first = all_first base g (suc n) address h in
    let rest = within base bytes g (suc n) (onward address 16) s (λ k. onward_aligned address aligned) (all_others base g (suc n) address h) (omega arith) in
    ((inside_range base g address first).0, omega (arith, rest.1, next_index base bytes g n address s aligned h))

-- and granules that lie there are inside
pub all_inside_lem : (base bytes g n address : ℕ) → Sized base bytes g → (2 ≤ n → address % 16 ≡ 0)
    → base ≤ location address → index_of base address + n ≤ g → all_inside base g n address ≡ true
unfolding all_inside
all_inside_lem base bytes g zero address s z low high = refl
all_inside_lem base bytes g (suc zero) address s z low high = rw (inside_between base g address low (omega arith))
all_inside_lem base bytes g (suc (suc n)) address s z low high =
    let aligned = z (omega arith) in
    let next : location (onward address 16) ≡ location address + 16 = onward_location address 16 (omega (arith, s.aligned, s.below)) in
    let index : index_of base (onward address 16) ≡ index_of base address + 1 = rw next (omega arith) in
    rw (
      inside_between base g address low (omega arith),
      all_inside_lem base bytes g (suc n) (onward address 16) s (λ k. onward_aligned address aligned) (rw next (omega arith)) (rw index (omega arith)),
    )

-- an index is that of the first granule, and all are inside
pub located : (base g address n i : ℕ) → granule_of base g address n ≡ Ok i
    → (all_inside base g n address ≡ true) × (i ≡ index_of base address)
unfolding granule_of
located base g address n i h = go (all_inside base g n address) refl h
  where
    go : (t : Bool) → all_inside base g n address ≡ t → cond t (Ok (index_of base address)) (Err Outside) ≡ Ok i
        → (all_inside base g n address ≡ true) × (i ≡ index_of base address)
    go true e k = (e, cc)
    go false e k = let z : ◌≡◌ {A = ℕ} 0 1 = cc in absurd (omega arith)

pub one_inside : (base g address : ℕ) → inside base g address ≡ true → Ok (index_of base address) ≡ granule_of base g address 1
unfolding granule_of all_inside
one_inside base g address e = rw e

-- a difference modulo 2^64, which below the base is past the end of every memory

no_borrow : (base loc d : ℕ) → base ≤ loc → loc < 2 ^ 56 → d < 2 ^ 64 → (d + base) % 2 ^ 64 ≡ loc → d ≡ loc - base
no_borrow base loc d low small h e = omega arith

short_difference : (base loc d : ℕ) → base ≤ 2 ^ 56 → d < 2 ^ 56 → (d + base) % 2 ^ 64 ≡ loc → base ≤ loc
short_difference base loc d below h e = omega arith

-- so an index by that difference finds the granules
module _ (base bytes g n address d : ℕ) (s : Sized base bytes g) (some : 1 ≤ n) (z : 2 ≤ n → address % 16 ≡ 0)
    (small : d < 2 ^ 64) (e : (d + base) % 2 ^ 64 ≡ location address) where
  located_low : base ≤ location address → d ≡ location address - base
  located_low low = no_borrow base (location address) d low (omega arith) small e

  pub found : d / 16 + n ≤ g → Ok (d / 16) ≡ granule_of base g address n
  unfolding granule_of
  found h =
      let few = s.few in
      let below = s.below in
      let low : base ≤ location address = short_difference base (location address) d (omega arith) (omega arith) e in
      let same = located_low low in
      rw (same, all_inside_lem base bytes g n address s z low (omega (arith, same)))

  pub missed : g < d / 16 + n → Err Outside ≡ granule_of base g address n
  unfolding granule_of
  missed beyond = go (all_inside base g n address) refl
    where
      go : (t : Bool) → all_inside base g n address ≡ t → Err Outside ≡ cond t (Ok (index_of base address)) (Err Outside)
      go true h =
          let k = within base bytes g n address s z h some in
          let same : d / 16 ≡ index_of base address = rw (located_low k.0) refl in
          absurd (omega (arith, same, k.1))
      go false h = refl

-- where the words of an aligned address's granule start in the data

pub first_word : (base address : ℕ) → base % 16 ≡ 0 → address % 16 ≡ 0 → location address - base ≡ 16 * index_of base address
first_word base address b z = omega arith

pub second_word : (base g address : ℕ) → base % 16 ≡ 0 → address % 16 ≡ 0 → inside base g address ≡ true
    → location (onward address 8) - base ≡ 16 * index_of base address + 8
second_word base g address b z h =
    rw (onward_location address 8 (omega arith)) (omega (arith, first_word base address b z, inside_range base g address h))
