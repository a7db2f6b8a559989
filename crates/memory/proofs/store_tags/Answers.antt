-- `memory::store_tags` meets its contract. Assumes nothing.
use Rattle.std.proofs.Common.{◌≡◌, add-one, arith, length-set}
use Rattle.memory.proofs.store_tags.Goals as goal

pub bounds-tags-at-then-granules-eq2 : goal.bounds-tags-at-then-granules-eq2
bounds-tags-at-then-granules-eq2 c = simp length-set (omega arith)

pub returns-then-granules-eq2 : goal.returns-then-granules-eq2
returns-then-granules-eq2 c = rw (c.if-granules-eq2.true, add-one)

pub returns-else-granules-eq2 : goal.returns-else-granules-eq2
returns-else-granules-eq2 c = let one : c.args.granules ≡ 1 = omega arith in rw one
