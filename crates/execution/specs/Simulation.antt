-- The machine with its history (document 01, "The machine we model"), and the rule of its setup.
use Rattle.std.specs.Prelude.{ℕ, Bool, List, length}
use Rattle.machine.specs.declared.Machine.{Machine}
use Rattle.machine.specs.declared.Setup.{Setup}
use Rattle.machine.specs.State.{State, with_memory}
use Rattle.machine.specs.Setup.{setup_ok}
use Rattle.history.specs.Ring.{History}

-- the state that words change, and the history words with the cursor
pub record Simulation : Type 0 where
  pub state : State
  pub history : History

-- a machine with what it is lent: data bytes, tag bytes and history words
abbrev pub simulation : Machine → List ℕ → List ℕ → List ℕ → Simulation
simulation m bytes tags words = record { state = with_memory m bytes tags; history = record { words = words; cursor = m.cursor } }

-- a machine with the memory that it is lent, and the history words
abbrev pub standing : Setup → List ℕ → Simulation
standing s words = simulation s.machine s.bytes.now s.tags.now words

abbrev pub machine_of : Simulation → Machine
machine_of s = record { settings = s.state.settings; registers = s.state.registers; cursor = s.history.cursor }

-- it breaks no rule of the setup
unfoldable pub well_formed : Simulation → Bool
well_formed s = setup_ok (machine_of s) (length s.state.bytes) (length s.state.tags) (length s.history.words)
