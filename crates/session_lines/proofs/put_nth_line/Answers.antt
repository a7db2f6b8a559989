-- `session_lines::put_nth_line` meets its contract: its line has the length of a line of its format. Assumes nothing.
use Rattle.std.proofs.Common.{arith, ap, length}
use Rattle.session_lines.proofs.LineFormats.{length_for}
use Rattle.session_lines.specs.LineFormats.{format_of}
use Rattle.session_lines.proofs.put_nth_line.Goals as goal

pub put_line-requires : goal.put_line-requires
put_line-requires c =
    omega (arith, length_for (format_of c.args.i) c.args.v, ap length c.nth_format-format.ensures.key)

pub returns-clause-value : goal.returns-clause-value
returns-clause-value c =
    omega (arith, length_for (format_of c.args.i) c.args.v, ap length c.nth_format-format.ensures.key)
