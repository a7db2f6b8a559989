-- Assumes nothing.
use Rattle.execution.specs.Simulation.{standing}
use Rattle.execution.proofs.Taking.{took_refusal, took_step}
use Rattle.execution.proofs.take.Goals as goal

pub returns-clause-taken : goal.returns-clause-taken
returns-clause-taken c =
    let a = c.args in
    let r = c.take_by_family in
    took_step (standing a.setup.now a.history.now) (standing r.new.setup r.new.history) a.word c.requires r.result (rw c.from.ensures at r.ensures.taken)

pub returns-clause-refusal : goal.returns-clause-refusal
returns-clause-refusal c =
    let a = c.args in
    let r = c.take_by_family in
    took_refusal (standing a.setup.now a.history.now) (standing r.new.setup r.new.history) a.word c.requires r.result (rw c.from.ensures at r.ensures.taken)
