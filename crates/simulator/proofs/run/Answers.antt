-- `simulator::run` meets its contract. Assumes nothing.
use Rattle.execution.specs.Steps.{run_of}
use Rattle.simulator.proofs.Setups.{check_passed, check_failed}
use Rattle.simulator.proofs.run.Goals as goal

pub take_all-requires : goal.take_all-requires
take_all-requires c = check_passed _ _ _ _ _ c.in-Ok.ensures

pub returns-in-Ok-clause-ran : goal.returns-in-Ok-clause-ran
unfolding run_of
returns-in-Ok-clause-ran c =
    let formed = check_passed _ _ _ _ _ c.in-Ok.ensures in
    rw formed c.take_all.ensures.ran

pub returns-in-Err-clause-ran : goal.returns-in-Err-clause-ran
unfolding run_of
returns-in-Err-clause-ran c =
    let (broken, code) = check_failed _ _ _ _ _ c.in-Err.ensures in
    rw (broken, code)
