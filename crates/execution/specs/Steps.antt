-- Steps, runs and steps back on a machine with history (document 01, "Codes and their order" and "History").
use Rattle.std.specs.Prelude.{ℕ, cond, not, List, [], ◌∷◌, length, ◌==◌}
use Rattle.isa.specs.Decoding.{decode_of}
use Rattle.machine.specs.declared.Code.TheVariants.{Setup, NoHistory, BadRecord}
use Rattle.machine.specs.Codes.{Check, check, lowest}
use Rattle.instructions.specs.WordOutcomes.{Outcome, word_outcome}
use Rattle.history.specs.BadRecords.{malformed}
use Rattle.history.specs.Records.{entry_in}
use Rattle.history.specs.Recording.{record_of, restored}
use Rattle.history.specs.Ring.{pushed, newest, popped}
use Rattle.execution.specs.Calls.{Out, Returned, Callable, returned, when_done, in_order}
use Rattle.execution.specs.Simulation.{Simulation, well_formed}

-- a step: the word's code on this setup; an accepted one is carried out and recorded
unfoldable pub step_of : Simulation → ℕ → Out Simulation
step_of s w =
    let o : Outcome = word_outcome (well_formed s) w s.state in
    when_done o.code (record { state = o.state; history = pushed (record_of (decode_of w) s.state) s.history })

-- a run checks SETUP even for no words
unfoldable pub run_of : Simulation → List ℕ → Returned Simulation
run_of s ws = cond (well_formed s) (in_order step_of s ws) (returned Setup 0 s)

-- the refusals of a step back, in the order of their numbers: NOHISTORY with held = 0, BADRECORD onto a malformed record
abbrev pub back_checks : Simulation → List Check
back_checks s =
    check Setup (not (well_formed s))
    ∷ check NoHistory (s.history.cursor.held == 0)
    ∷ check BadRecord (malformed (length s.state.tags) (newest s.history))
    ∷ []

-- a step back: what the newest record holds is restored
unfoldable pub step_back_of : Simulation → Out Simulation
step_back_of s =
    when_done (lowest (back_checks s))
    (record { state = restored (entry_in (newest s.history)) s.state; history = popped s.history })

abbrev pub simulator : Callable Simulation
simulator = record { step = step_of; run = run_of; back = step_back_of }
