-- `memory::store_pair` meets its contract: the second word is stored in the lent part after the first. Assumes nothing.
use Rattle.bits.specs.LittleEndian.{bytes_of}
use Rattle.bits.proofs.LittleEndian.{low_bytes_length}
use Rattle.memory.proofs.Lists.{back_append}
use Rattle.memory.proofs.store_pair.Goals as goal

pub returns : goal.returns
returns c =
    let first = c.store_word in
    let second = c.store_word-2 in
    let a = c.args in
    back_append 8 a.part.now (bytes_of a.low) (bytes_of a.high) first.new.part second.new.part
    (low_bytes_length 8 a.low) first.ensures second.ensures
