-- `simulator::playing::refuse_all` meets its contract. Assumes nothing.
use Rattle.simulator.proofs.Setups.{filled}
use Rattle.simulator.proofs.playing.refuse_all.Goals as goal

pub returns-clause-codes_after : goal.returns-clause-codes_after
returns-clause-codes_after c = filled _ _ _ _ c.requires.codes_enough (c.fill.ensures.after (λ y e. e))

pub returns-clause-counts_after : goal.returns-clause-counts_after
returns-clause-counts_after c = filled _ _ _ _ c.requires.counts_enough (c.fill-2.ensures.after (λ y e. e))
