-- `tag::draw` meets its contract. Assumes nothing.
use mathlib.Core.Path.{ap, ◌∙◌}
use Prim.Native.Nat.{◌/◌}
use native.Mathlib.Omega.{arith}
use Rattle.bits.specs.Fields.{with_bits}
use Rattle.tag.specs.RandomBits.{drawn}
use Rattle.tag.proofs.RandomBits.{at_once}
use Rattle.tag.proofs.draw.Goals as goal

pub returns : goal.returns
returns c =
    let s = c.from-s.result in
    let e = c.from-s.ensures in
    let law = at_once s (omega arith) in
    let four = c.field-four.ensures ∙ law.0 in
    (λ i. record { bits = four i; seed = (c.put.ensures ∙ ap (with_bits (s / 16) 12 4) four ∙ law.1) i }) ∙ ap drawn e
