-- `memory::restore` meets its contract: the second granule is stored in the lent part after the first. Assumes nothing.
use Rattle.std.proofs.Common.{◌≡◌, slice_index, arith}
use Rattle.memory.specs.Stores.{pair_bytes}
use Rattle.memory.proofs.Lists.{back_append}
use Rattle.memory.proofs.Stores.{pair_length, one_saved, two_saved}
use Rattle.memory.proofs.restore.Goals as goal

pub returns-then-granules-eq0 : goal.returns-then-granules-eq0
returns-then-granules-eq0 c = rw c.if-granules-eq0.true

pub returns-then-granules-eq2 : goal.returns-then-granules-eq2
returns-then-granules-eq2 c =
    let first = c.store_pair in
    let second = c.store_pair-then-granules-eq2 in
    let a = c.args in
    let w = slice_index a.saved in
    rw (c.if-granules-eq2.true, two_saved (w 0) (w 1) (w 2) (w 3))
    (back_append 16 a.part.now (pair_bytes (w 0) (w 1)) (pair_bytes (w 2) (w 3)) first.new.part second.new.part
    (pair_length (w 0) (w 1)) first.ensures second.ensures)

pub returns-else-granules-eq2 : goal.returns-else-granules-eq2
returns-else-granules-eq2 c =
    let first = c.store_pair in
    let a = c.args in
    let w = slice_index a.saved in
    let one : a.granules ≡ 1 = omega arith in
    rw (one, one_saved (w 0) (w 1) (w 2) (w 3)) first.ensures
