-- `simulator::playing::make_call` meets its contract. Assumes nothing.
use Rattle.std.proofs.Common.{◌≡◌, take, arith}
use lib.Seq.{take_all}
use Rattle.execution.specs.Calls.{call}
use Rattle.execution.specs.Steps.{run_of}
use Rattle.simulator.specs.Playing.{call_of}
use Rattle.simulator.proofs.playing.make_call.Goals as goal

pub returns-in-Back-clause-made : goal.returns-in-Back-clause-made
unfolding call call_of
returns-in-Back-clause-made c = rw (c.in-Back.is, c.uncounted.ensures.0, c.uncounted.ensures.1) c.back.ensures.undone

pub returns-in-Step-clause-made : goal.returns-in-Step-clause-made
unfolding call call_of
returns-in-Step-clause-made c =
    rw (c.in-Step.is, c.uncounted-in-Step.ensures.0, c.uncounted-in-Step.ensures.1) c.take.ensures.taken

pub returns-in-Run-clause-made : goal.returns-in-Run-clause-made
unfolding call call_of run_of
returns-in-Run-clause-made c =
    let n = c.in-Run.field-0 in
    let long = rw c.in-Run.is at c.requires.its_words in
    let whole : take n c.args.words.now ≡ c.args.words.now = take_all n c.args.words.now (omega (arith, long)) in
    rw (c.in-Run.is, whole, c.requires.formed) c.take_all.ensures.ran
