-- `stepping::take_all` meets its contract. The loop's invariant: the run is what is left of it, with as many words done as are passed.
-- Assumes nothing.
use Rattle.machine.specs.Loans.{SameLoans}
use Rattle.execution.specs.Simulation.{standing}
use Rattle.stepping.proofs.Runs.{Reached}
use Rattle.stepping.proofs.take_all.Given as goal

abbrev pub invariant-loop-count : goal.invariant-loop-count
invariant-loop-count l =
    record {
      loans : SameLoans l.initial.setup l.setup;
      reached : Reached l.words (standing l.initial.setup l.initial.history) l.count (standing l.setup l.history);
    }
