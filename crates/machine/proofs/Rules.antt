-- What the rules of the setup tell of a state. Assumes nothing.
use Prim.Native.Nat.{ℕ, ◌≤◌}
use mathlib.Core.Bool.{true, and-eq-true_iff}
use mathlib.Core.Path.{◌≡◌}
use lib.Dec.{leb}
use borrow.Author.Tests.{leb-true}
use Rattle.memory.specs.Sizes.{sizes_ok}
use Rattle.memory.proofs.Sizes.{Sized, sized}
use Rattle.machine.specs.declared.Settings.{Settings}
use Rattle.machine.specs.declared.Status.{Status}
use Rattle.machine.specs.declared.Machine.{Machine}
use Rattle.machine.specs.Setup.{status_ok, state_ok, cursor_ok, slots_of, setup_ok}

module _ (settings : Settings) (status : Status) (bytes g : ℕ) (h : state_ok settings status bytes g ≡ true) where
  pub state_sizes : sizes_ok settings.base bytes g ≡ true
  unfolding state_ok
  state_sizes = ((and-eq-true_iff (sizes_ok settings.base bytes g) (status_ok status)).0 h).0

  pub state_sized : Sized settings.base bytes g
  state_sized = sized settings.base bytes g state_sizes

  pub state_status : (status.nzcv ≤ 15) × (status.rgsr ≤ 15)
  unfolding state_ok
  state_status =
      let both = (and-eq-true_iff (leb status.nzcv 15) (leb status.rgsr 15)).0
      ((and-eq-true_iff (sizes_ok settings.base bytes g) (status_ok status)).0 h).1 in
      (leb-true status.nzcv 15 both.0, leb-true status.rgsr 15 both.1)

pub setup_state : (m : Machine) (bytes g words : ℕ) → setup_ok m bytes g words ≡ true → state_ok m.settings m.registers.status bytes g ≡ true
unfolding setup_ok
setup_state m bytes g words h =
    ((and-eq-true_iff (state_ok m.settings m.registers.status bytes g) (cursor_ok (slots_of words) m.cursor)).0 h).0
