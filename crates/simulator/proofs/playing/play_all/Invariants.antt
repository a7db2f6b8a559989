-- `simulator::playing::play_all` meets its contract. The loop's invariant: playing what is left, behind the answers written so far, gives
-- what the whole list gives. Assumes nothing.
use Rattle.machine.specs.Loans.{SameLoans}
use Rattle.execution.specs.Simulation.{standing}
use Rattle.simulator.proofs.Lists.{Reached}
use Rattle.simulator.proofs.playing.play_all.Given as goal

abbrev pub invariant-loop-i : goal.invariant-loop-i
invariant-loop-i l =
    record {
      loans : SameLoans l.initial.setup l.setup;
      reached : Reached l.calls l.words (standing l.initial.setup l.initial.history) l.initial.codes l.initial.counts l.i l.rest (standing l.setup l.history) l.codes l.counts;
    }
