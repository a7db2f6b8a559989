-- `checksum::with_numbers` meets its contract. Assumes nothing.
use Rattle.std.proofs.Common.{sym, ◌∙◌, arith, drop_of_length-le, map}
use Rattle.std.proofs.lemmas.List.{length-map}
use Rattle.checksum.specs.Checksum.{with_numbers}
use Rattle.checksum.proofs.Turns.{turn}
use Rattle.checksum.proofs.with_numbers.Goals as goal

pub loop-item-preserved : goal.loop-item-preserved
loop-item-preserved g c number is =
    let l = c.loop-item in
    let value = is _ _ c.into.ensures in
    l.invariant number is
    ∙ turn number c.args.items.now l.item-index l.s c.item-item.result (omega arith) c.item-item.is
    ∙ rw (c.with_number-s.ensures, value)

pub returns : goal.returns
unfolding with_numbers
returns g c number is =
    let l = c.loop-item in
    let all = drop_of_length-le (map number c.args.items.now) {i = l.item-index} (omega (arith, length-map c.args.items.now number)) in
    sym (l.invariant number is ∙ rw all)
