-- `memory::locate` meets its contract. The difference is found by the test of the index, not by the step's name. Assumes nothing.
use Rattle.std.proofs.Common.{◌≡◌, ℕ, ◌+◌, ◌/◌, ◌%◌, ◌^◌, ◌<◌, ◌≤◌, true, arith, rules}
use Rattle.std.specs.Prelude.{Ok, Err}
use Rattle.memory.specs.declared.LocateError.TheVariants.{Outside}
use Rattle.memory.specs.Locations.{location, granule_of}
use Rattle.memory.specs.Sizes.{sizes_ok}
use Rattle.memory.proofs.Locations.{found, missed}
use Rattle.memory.proofs.Sizes.{sized}
use Rattle.memory.proofs.locate.Goals as goal

module _ (base bytes g n address d : ℕ) (s : sizes_ok base bytes g ≡ true) (some : 1 ≤ n) (z : 2 ≤ n → address % 16 ≡ 0) where
  beyond : g < d / 16 + n → d < 2 ^ 64 → (d + base) % 2 ^ 64 ≡ location address → Err Outside ≡ granule_of base g address n
  beyond h small e = missed base bytes g n address d (sized base bytes g s) some z small e h

  placed : d / 16 + n ≤ g → d < 2 ^ 64 → (d + base) % 2 ^ 64 ≡ location address → Ok (d / 16) ≡ granule_of base g address n
  placed h small e = found base bytes g n address d (sized base bytes g s) some z small e h

pub returns-then-granules-index : goal.returns-then-granules-index
returns-then-granules-index c =
    let a = c.args in
    let l = λ (d : ℕ). beyond a.base _ a.granules a.count a.address d c.requires.granules_value c.requires.le_count c.requires.address_value in
    search (rules, l)

pub returns : goal.returns
returns c =
    let a = c.args in
    let l = λ (d : ℕ). placed a.base _ a.granules a.count a.address d c.requires.granules_value c.requires.le_count c.requires.address_value in
    grind (arith, l)
