-- `session_text::printer::put_answer` meets its contract. Assumes nothing.
use Rattle.std.proofs.Common.{arith, ◌∙◌}
use Rattle.session_text.specs.Printing.{answer_lines}
use Rattle.session_text.proofs.Printed.{then}
use Rattle.session_text.proofs.printer.put_answer.Goals as goal

pub returns : goal.returns
unfolding answer_lines
returns c =
    record {
      value = omega arith;
      out_after = (rw (c.from-2.ensures ∙ c.from.ensures) at c.put_line.ensures.out_after)
          ∙ then _ _ _ _ _ _ _ _ c.put_line-at.ensures.out_after c.put_line-at.ensures.value;
    }
