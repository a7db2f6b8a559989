-- What the code of an access tells, and a place that was found. Assumes nothing.
use Rattle.std.proofs.Common.{◌≡◌, ℕ, ◌+◌, ◌*◌, ◌%◌, ◌<◌, ◌≤◌, Bool, true, false, cond, not, ◌&&◌, eqb, refl, arith, eq-eqb, ne_eqb, eqb-true, Ok, Err}
use mathlib.Core.Bool.{and-false}
use Rattle.memory.specs.declared.LocateError.{LocateError}
use Rattle.memory.specs.declared.LocateError.TheVariants.{Outside as NoGranule}
use Rattle.memory.specs.Locations.{all_inside, granule_of, index_of, onward}
use Rattle.memory.specs.Sizes.{sizes_ok}
use Rattle.memory.proofs.Sizes.{sized}
use Rattle.memory.proofs.Locations.{located, within}
use Rattle.machine.specs.declared.Code.{Code}
use Rattle.machine.specs.declared.Code.TheVariants.{Done, SpAlign, Align, Outside}
use Rattle.machine.specs.Codes.{lowest, is_done}
use Rattle.instructions.specs.Accesses.{access, rounded_down}
use Rattle.instructions.specs.Inside.Places.{access_code, placed_by, store_place, load_place}

-- an access that has code 0 is aligned, and its granules are inside
module _ (base g n rn address multiple granules : ℕ) (stores : Bool) where
  pub accepted : is_done (access_code base g (access n rn address multiple granules stores)) ≡ true
      → (address % multiple ≡ 0) × (all_inside base g granules address ≡ true)
  unfolding lowest
  accepted h = go (eqb n 31 && not (eqb (rn % 16) 0)) (eqb (address % multiple) 0) refl (all_inside base g granules address) refl h
    where
      go : (t u : Bool) → eqb (address % multiple) 0 ≡ u → (v : Bool) → all_inside base g granules address ≡ v
          → is_done (cond t SpAlign (cond (not u) Align (cond (not v) Outside Done))) ≡ true
          → (address % multiple ≡ 0) × (all_inside base g granules address ≡ true)
      go true u p v q k = absurd (cc)
      go false true p true q k = (eqb-true (address % multiple) 0 p, q)
      go false true p false q k = absurd (cc)
      go false false p v q k = absurd (cc)

-- what a place tells of the code

pub placed_first : (code : Code) (first i : ℕ) → placed_by code first ≡ Ok i → (is_done code ≡ true) × (first ≡ i)
placed_first code first i h = go (is_done code) h
  where
    go : (t : Bool) → cond t (Ok first) (Err code) ≡ Ok i → (t ≡ true) × (first ≡ i)
    go true k = (refl, cc)
    go false k = absurd (cc)

pub placed_nowhere : (code told : Code) (first : ℕ) → placed_by code first ≡ Err told → (is_done code ≡ false) × (code ≡ told)
placed_nowhere code told first h = go (is_done code) h
  where
    go : (t : Bool) → cond t (Ok first) (Err code) ≡ Err told → (t ≡ false) × (code ≡ told)
    go true k = absurd (cc)
    go false k = (refl, cc)

-- what the code finds, test by test

pub place_misaligned : (base g n rn address granules : ℕ) → (rn % 16 ≡ 0 → ⊥) → address % 16 ≡ rn % 16
    → Err (cond (eqb n 31) SpAlign Align) ≡ store_place base g n rn address granules
unfolding lowest
place_misaligned base g n rn address granules odd same = rw (same, ne_eqb (rn % 16) 0 odd) (go (eqb n 31))
  where
    go : (t : Bool) → Err (cond t SpAlign Align) ≡ placed_by (cond (t && true) SpAlign Align) (index_of base address)
    go true = refl
    go false = refl

module _ (base g n rn address multiple granules : ℕ) (stores : Bool)
    (sp : (eqb n 31 && not (eqb (rn % 16) 0)) ≡ false) (aligned : address % multiple ≡ 0) where
  pub place_found : (i : ℕ) → granule_of base g address granules ≡ Ok i
      → Ok i ≡ placed_by (access_code base g (access n rn address multiple granules stores)) (index_of base address)
  unfolding lowest
  place_found i h =
      let p = located base g address granules i h in
      rw (sp, eq-eqb (address % multiple) 0 aligned, p.0, p.1)

  pub place_outside : {e : LocateError} → granule_of base g address granules ≡ Err e
      → Err Outside ≡ placed_by (access_code base g (access n rn address multiple granules stores)) (index_of base address)
  unfolding lowest granule_of
  place_outside {e} h = rw (sp, eq-eqb (address % multiple) 0 aligned) (go (all_inside base g granules address) h)
    where
      go : (t : Bool) → cond t (Ok (index_of base address)) (Err NoGranule) ≡ Err e
          → Err Outside ≡ placed_by (cond (not t) Outside Done) (index_of base address)
      go true k = absurd (cc)
      go false k = refl

-- a base register that is aligned is no misaligned SP
pub sp_aligned : (n rn : ℕ) → rn % 16 ≡ 0 → (eqb n 31 && not (eqb (rn % 16) 0)) ≡ false
sp_aligned n rn h = rw (eq-eqb (rn % 16) 0 h) (and-false (eqb n 31))

-- all the granules named are inside

pub store_inside : (base g n rn address granules i : ℕ) → sizes_ok base (16 * g) g ≡ true → 1 ≤ granules
    → store_place base g n rn address granules ≡ Ok i → i + granules ≤ g
store_inside base g n rn address granules i ok some h =
    let p = placed_first (access_code base g (access n rn address 16 granules true)) (index_of base address) i h in
    let q = accepted base g n rn address 16 granules true p.0 in
    omega (arith, p.1, (within base (16 * g) g granules address (sized base (16 * g) g ok) (λ two. q.0) q.1 some).1)

pub load_inside : (base g n rn amount i : ℕ) → sizes_ok base (16 * g) g ≡ true → load_place base g n rn amount ≡ Ok i → i < g
load_inside base g n rn amount i ok h =
    let address = rounded_down (onward rn amount) in
    let p = placed_first (access_code base g (access n rn address 1 1 false)) (index_of base address) i h in
    let q = accepted base g n rn address 1 1 false p.0 in
    omega (arith, p.1, (within base (16 * g) g 1 address (sized base (16 * g) g ok) (λ two. absurd (omega arith)) q.1 (omega arith)).1)
