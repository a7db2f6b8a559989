-- With numbers that are the bytes and the words themselves, `with_numbers` is the checksum of a list of numbers.
use Rattle.std.proofs.Common.{map-id}
use Rattle.bench.proofs.memories_sum.Goals as goal

pub returns : goal.returns
returns c =
    let tags = c.with_numbers-sum.ensures (λ x. x) (λ x v e. e) in
    let bytes = c.with_numbers-sum-2.ensures (λ x. x) (λ x v e. e) in
    let history = c.with_numbers.ensures (λ x. x) (λ x v e. e) in
    rw (history, bytes, tags, map-id c.args.tags.now, map-id c.args.bytes.now, map-id c.args.history.now)
