use Rattle.std.proofs.Common.{◌≡◌, ◌^◌, ◌<◌, length}
use Rattle.templates.specs.Inside.Reading.{read_decimal}
use Rattle.templates.proofs.reader.decimal.Given as goal

abbrev pub invariant-loop-b : goal.invariant-loop-b
invariant-loop-b l =
    record { small : l.value < 10 ^ 19; on : read_decimal 0 l.s ≡ read_decimal l.value l.rest }

abbrev pub decreases-loop-b : goal.decreases-loop-b
decreases-loop-b l = length l.rest
