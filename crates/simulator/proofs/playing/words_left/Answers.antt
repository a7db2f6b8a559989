-- Assumes nothing.
use borrow.Author.Tests.{lt-ltb, le-ltb}
use Rattle.std.proofs.Common.{◌≡◌, ◌-◌, arith}
use Rattle.simulator.specs.Playing.{all_taken}
use Rattle.simulator.proofs.Lists.{taken_on, taken_end}
use Rattle.simulator.proofs.playing.words_left.Goals as goal

pub returns-in_err-left : goal.returns-in_err-left
returns-in_err-left c =
    let few = lt-ltb c.args.words (all_taken c.args.calls.now) (omega (arith, c.in_err-left.ensures, taken_on c.args.calls.now c.loop-asked.asked-index c.loop-asked-test.true)) in
    rw few c.from_residual.ensures

pub loop-asked-preserved : goal.loop-asked-preserved
loop-asked-preserved c =
    omega (arith, c.in_ok-left.ensures, taken_on c.args.calls.now c.loop-asked.asked-index c.loop-asked-test.true)

pub returns : goal.returns
returns c =
    let e = taken_end c.args.calls.now c.loop-asked.asked-index c.loop-asked-test.false in
    let enough = le-ltb c.args.words (all_taken c.args.calls.now) (omega (arith, e)) in
    let left : c.loop-asked.left ≡ c.args.words - all_taken c.args.calls.now = omega (arith, e) in
    rw (enough, left)
