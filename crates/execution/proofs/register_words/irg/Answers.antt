-- Assumes nothing.
use Rattle.std.proofs.Common.{arith}
use Rattle.execution.specs.Simulation.{standing}
use Rattle.execution.proofs.Taking.{status_ranges}
use Rattle.execution.proofs.register_words.irg.Goals as goal

pub choose-after-requires : goal.choose-after-requires
choose-after-requires c = omega (arith, status_ranges (standing c.args.setup.now c.args.history.now) c.requires.formed)
