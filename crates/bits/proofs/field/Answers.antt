-- `bits::field` meets its contract: the shift divides, the mask is 2 ^ width - 1. Assumes nothing.
use native.Mathlib.Omega.{arith}
use lib.Pow.{pow_pos}
use Rattle.bits.proofs.Fields.{one_shifted, shift_mask}
use Rattle.bits.proofs.field.Goals as goal

pub overflow_sub-result : goal.overflow_sub-result
overflow_sub-result c = omega (arith, one_shifted c.args.width (omega arith), pow_pos c.args.width)

pub returns : goal.returns
returns c = shift_mask c.args.w c.args.low c.args.width (omega arith)
