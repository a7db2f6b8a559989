-- Assumes nothing.
use Rattle.std.proofs.Common.{◌≡◌, length, arith, rules, ap, ◌∙◌}
use Rattle.execution.specs.Calls.{returned}
use Rattle.execution.proofs.Kept.{took_done, took_refused}
use Rattle.stepping.proofs.Runs.{at_end, at_refusal, one_on}
use Rattle.stepping.proofs.take_all.Goals as goal

pub returns-in-Err-clause-ran : goal.returns-in-Err-clause-ran
returns-in-Err-clause-ran c =
    let k = took_refused _ _ _ _ c.in-Err.ensures.refusal c.in-Err.ensures.taken in
    ap (returned c.in-Err.code c.loop-count.count) k.1 ∙ at_refusal _ _ _ _ c.loop-count.invariant.reached (omega arith) _ k.0

pub loop-count-preserved : goal.loop-count-preserved
loop-count-preserved c =
    record { loans = search rules; reached = one_on _ _ _ _ c.loop-count.invariant.reached (omega arith) _ (took_done _ _ _ c.in_default.ensures.taken) }

pub returns-clause-ran : goal.returns-clause-ran
returns-clause-ran c =
    let n : c.loop-count.count ≡ length c.args.words.now = omega arith in
    rw (← n) (at_end _ _ _ _ c.loop-count.invariant.reached (omega arith))
