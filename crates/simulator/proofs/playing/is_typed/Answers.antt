-- Assumes nothing.
use Rattle.std.proofs.Common.{rules}
use Rattle.simulator.proofs.playing.is_typed.Goals as goal

pub returns : goal.returns
returns c = record { seed = search rules; bytes = c.are_bytes.ensures; tags = c.are_bytes-2.ensures }
