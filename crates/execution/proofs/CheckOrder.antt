-- The refusals of a step back stand in the order of their numbers. Assumes nothing.
use Rattle.std.proofs.Common.{arith}
use Rattle.machine.specs.Codes.{Rising}
use Rattle.execution.specs.Simulation.{Simulation}
use Rattle.execution.specs.Steps.{back_checks}

pub back_checks_rise : (s : Simulation) → Rising 0 (back_checks s)
back_checks_rise s = (omega arith, (omega arith, (omega arith, tt)))
