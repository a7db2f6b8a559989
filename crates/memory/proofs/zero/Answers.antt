-- `memory::zero` meets its contract. Assumes nothing.
use Rattle.std.proofs.Common.{◌*◌, arith}
use Rattle.bits.specs.LittleEndian.{low_bytes}
use Rattle.memory.proofs.Lists.{filled}
use Rattle.memory.proofs.zero.Goals as goal

pub returns-then-granules-eq1 : goal.returns-then-granules-eq1
unfolding low_bytes
returns-then-granules-eq1 c = rw c.if-granules-eq1.true c.store_pair.ensures

pub returns-else-granules-eq1 : goal.returns-else-granules-eq1
returns-else-granules-eq1 c =
    filled 0 (16 * c.args.granules) c.args.part.now _ 0 (c.fill.ensures.after (λ y e. e)) (omega (arith, c.requires))
