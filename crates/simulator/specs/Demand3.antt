-- Demand 3 of document 00, as document 01, "The plain machine", has it: one claim about every list of calls.
use Rattle.std.specs.Prelude.{true, List, [], ◌≡◌, length}
use Rattle.machine.specs.State.{Typed}
use Rattle.machine.specs.Setup.{slots_of}
use Rattle.execution.specs.Calls.{Call, Ended, Callable, calls}
use Rattle.simulator.specs.PlainMachine.{Plain, plain_machine}
use Rattle.execution.specs.Simulation.{Simulation, well_formed}

-- every answer, each run's count in it, and after the list the whole state
pub record Agree (ours : Ended Simulation) (plain : Ended Plain) : Type 0 where
  pub answers : ours.answers ≡ plain.answers
  pub state : ours.final.state ≡ plain.final.state

-- the plain machine beside a start: with room for as many copies as the history has slots
abbrev pub plain_beside : Simulation → Callable Plain
plain_beside start = plain_machine (slots_of (length start.history.words))

-- its own start: its state equal to ours, its stack empty
abbrev pub plain_start : Simulation → Plain
plain_start start = record { state = start.state; copies = [] }

-- Start from any well-formed setup with an empty history: held = 0, whatever next is and its words hold.
unfoldable pub Demand3 : Callable Simulation → Type 0
Demand3 ours =
    (start : Simulation) → Typed start.state → well_formed start ≡ true → start.history.cursor.held ≡ 0 → (list : List Call)
    → Agree (calls ours start list) (calls (plain_beside start) (plain_start start) list)
