-- `simulator::playing::play_list` meets its contract. Assumes nothing.
use Rattle.simulator.proofs.Setups.{check_passed, check_failed, list_refused}
use Rattle.simulator.proofs.playing.play_list.Goals as goal

pub play_all-requires-clause-formed : goal.play_all-requires-clause-formed
play_all-requires-clause-formed c = check_passed _ _ _ _ _ c.in-Ok.ensures

pub returns-in-Err-clause-wrote : goal.returns-in-Err-clause-wrote
returns-in-Err-clause-wrote c =
    let (broken, code) = check_failed _ _ _ _ _ c.in-Err.ensures in
    let codes = rw code at c.refuse_all.ensures.codes_after in
    list_refused _ _ _ _ _ _ _ broken codes c.refuse_all.ensures.counts_after
