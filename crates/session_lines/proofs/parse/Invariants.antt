-- `session_lines::parse`: with i lines read, the rest decides what the input says.
use Rattle.std.proofs.Common.{◌++◌}
use Rattle.session_lines.proofs.Parsing.{Reached}
use Rattle.session_lines.proofs.parse.Given as goal

abbrev pub invariant-loop-i : goal.invariant-loop-i
invariant-loop-i l = Reached l.s l.at l.i (l.front ++ l.words)
