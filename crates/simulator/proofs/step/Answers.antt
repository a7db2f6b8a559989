-- `simulator::step` meets its contract. Assumes nothing.
use Rattle.std.proofs.lemmas.Result.{err_from_is_err_and}
use Rattle.execution.proofs.Kept.{ill_formed}
use Rattle.simulator.proofs.Setups.{check_passed, check_failed}
use Rattle.simulator.proofs.step.Goals as goal

pub returns-in_err-check-clause-taken : goal.returns-in_err-check-clause-taken
returns-in_err-check-clause-taken c =
    let p = err_from_is_err_and c.from_residual.result c.from_residual.ensures.1 in
    let (broken, code) = check_failed _ _ _ _ _ c.in_err-check.ensures in
    rw (p.1, p.2, code, ill_formed _ _ broken)

pub take-requires : goal.take-requires
take-requires c = check_passed _ _ _ _ _ c.in_ok-check.ensures
