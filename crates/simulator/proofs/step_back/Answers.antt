-- `simulator::step_back` meets its contract. Assumes nothing.
use Rattle.std.proofs.lemmas.Result.{err_from_is_err_and}
use Rattle.stepping.proofs.StepsBack.{back_setup}
use Rattle.simulator.proofs.Setups.{check_passed, check_failed}
use Rattle.simulator.proofs.step_back.Goals as goal

pub returns-in_err-check-clause-undone : goal.returns-in_err-check-clause-undone
returns-in_err-check-clause-undone c =
    let p = err_from_is_err_and c.from_residual.result c.from_residual.ensures.1 in
    let (broken, code) = check_failed _ _ _ _ _ c.in_err-check.ensures in
    rw (p.1, p.2, code, back_setup _ broken)

pub back-requires : goal.back-requires
back-requires c = check_passed _ _ _ _ _ c.in_ok-check.ensures
