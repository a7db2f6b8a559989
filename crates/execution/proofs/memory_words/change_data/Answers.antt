-- Assumes nothing.
use Rattle.std.proofs.Common.{◌*◌}
use Rattle.memory.specs.Stores.{pair_bytes, zero_bytes}
use Rattle.memory.proofs.Lists.{back_part}
use Rattle.execution.proofs.memory_words.change_data.Goals as goal

pub returns-in-Zeroed : goal.returns-in-Zeroed
returns-in-Zeroed c =
    rw c.in-Zeroed.is (back_part (16 * c.args.first) c.args.bytes.now _ (zero_bytes c.args.granules) c.zero.ensures)

pub returns-in-Pair : goal.returns-in-Pair
returns-in-Pair c =
    rw c.in-Pair.is (back_part (16 * c.args.first) c.args.bytes.now _ (pair_bytes c.in-Pair.low c.in-Pair.high) c.store_pair.ensures)
