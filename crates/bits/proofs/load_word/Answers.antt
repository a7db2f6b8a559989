-- `bits::load_word` meets its contract. Assumes nothing.
use Rattle.std.proofs.Common.{arith}
use Rattle.bits.proofs.LittleEndian.{word_apart}
use Rattle.bits.proofs.load_word.Goals as goal

pub returns : goal.returns
returns c = omega (arith, c.from_le_bytes.ensures, word_apart c.args.part.now c.requires)
