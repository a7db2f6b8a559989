-- `session_lines::nth_line` meets its contract: a format has at most 16 digits. Assumes nothing.
use Rattle.std.proofs.Common.{arith}
use Rattle.session_lines.proofs.LineFormats.{narrow}
use Rattle.session_lines.proofs.nth_line.Goals as goal

pub line_at-requires : goal.line_at-requires
line_at-requires c = omega (arith, narrow c.args.i)
