-- `memory::restore_tags` meets its contract. Assumes nothing.
use Rattle.std.proofs.Common.{◌+◌, ◌-◌, ◌≡◌, take, arith, length-take-le}
use Rattle.memory.proofs.Lists.{filled_part}
use Rattle.memory.proofs.restore_tags.Goals as goal

pub returns : goal.returns
returns c =
    let a = c.args in
    let n : a.at + a.granules - a.at ≡ a.granules = omega arith in
    rw n (filled_part a.at a.granules a.tags.now _ (take a.granules a.saved) c.copy_from_slice.ensures.after (length-take-le _ _ (omega arith)) c.requires.granules_in_bounds)
