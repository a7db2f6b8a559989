-- `bits::put` meets its contract: three parts side by side, joined by `|`. Assumes nothing.
use mathlib.Core.Path.{ap, ◌∙◌}
use Prim.Native.Nat.{ℕ, ◌+◌, ◌*◌, ◌/◌, ◌%◌, ◌^◌}
use native.Mathlib.Omega.{arith}
use lib.Bits.{bit_or}
use Rattle.bits.proofs.Fields.{shift_or}
use Rattle.bits.proofs.put.Goals as goal

pub returns : goal.returns
returns c =
    let w = c.args.w in
    let low = c.args.low in
    let width = c.args.width in
    let v = c.args.v in
    let above = low + width in
    ap (λ (n : ℕ). bit_or (bit_or (w / 2 ^ above * 2 ^ above % 2 ^ 64) (v * 2 ^ low % 2 ^ 64)) n) c.field.ensures
    ∙ shift_or w low width v (omega arith) (omega arith) (omega arith)
