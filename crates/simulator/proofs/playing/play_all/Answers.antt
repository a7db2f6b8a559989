-- Assumes nothing.
use Rattle.std.proofs.Common.{rules}
use Rattle.simulator.proofs.Lists.{at_end, has_words, one_on}
use Rattle.simulator.proofs.playing.play_all.Goals as goal

pub split_at-requires : goal.split_at-requires
split_at-requires c = rw c.words_taken.ensures (has_words _ _ _ _ _ _ _ _ _ _ c.loop-i.invariant.reached c.loop-i-test.true)

pub loop-i-preserved : goal.loop-i-preserved
loop-i-preserved c =
    let split = c.split_at.ensures in
    let made = rw (split.front, c.words_taken.ensures) at c.make_call-ran.ensures.made in
    record {
      loans = search rules;
      reached =
          rw (split.back, c.words_taken.ensures)
          (one_on _ _ _ _ _ _ _ _ _ _ c.loop-i.invariant.reached c.loop-i-test.true _ made);
    }

pub returns-clause-wrote : goal.returns-clause-wrote
returns-clause-wrote c = at_end _ _ _ _ _ _ _ _ _ _ c.loop-i.invariant.reached c.loop-i-test.false
