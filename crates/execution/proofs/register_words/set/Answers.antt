-- Assumes nothing.
use Rattle.history.specs.Recording.{entry_for}
use Rattle.execution.specs.Simulation.{standing}
use Rattle.execution.proofs.Taking.{cursor_placed}
use Rattle.execution.proofs.register_words.set.Goals as goal

pub push-requires : goal.push-requires
push-requires c = cursor_placed (standing c.args.setup.now c.args.history.now) c.requires.formed

pub returns-clause-taken : goal.returns-clause-taken
unfolding entry_for
returns-clause-taken c =
    let s = c.args.setup.now in
    let history = rw (c.words.ensures, c.x_or_sp.ensures) at c.push.ensures in
    λ i.
    record {
      state = record {
        settings = s.machine.settings;
        registers = record { x = c.write.ensures.x i; status = c.write.ensures.status i };
        bytes = s.bytes.now;
        tags = s.tags.now;
      };
      history = history i;
    }
