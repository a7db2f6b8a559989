-- `session_text::printer::put_report` meets its contract. Assumes nothing.
use Rattle.std.proofs.Common.{arith, ◌++◌, ◌∙◌}
use Rattle.text.proofs.Writing.{after}
use Rattle.text.specs.Ascii.{ascii}
use Rattle.text.specs.Lines.{line_text, digits_line}
use Rattle.session_text.specs.Printing.{answer_lines, register_lines, report_text}
use Rattle.session_text.proofs.Printed.{then, answer_long, registers_long}
use Rattle.session_text.proofs.printer.put_report.Goals as goal

pub returns : goal.returns
unfolding report_text
returns c =
    let a = c.args in
    let r = a.registers.now in
    let answer = answer_lines a.ran.count a.ran.code in
    let registers = register_lines r.x in
    let nzcv = line_text (ascii "nzcv=") 1 r.status.nzcv in
    let tags = digits_line (ascii "tags=") a.tags.now in
    record {
      value = omega arith;
      out_after = c.put_digits_line.ensures.out_after
          ∙ then _ _ _ _ _ _ _ tags (rw c.from.ensures at c.put_line-digits.ensures.out_after) c.put_line-digits.ensures.value
          ∙ after _ _ registers 80 _ _ (nzcv ++ tags) (registers_long _) c.put_registers-nzcv.ensures.out_after c.put_registers-nzcv.ensures.value
          ∙ after _ 0 answer 17 _ _ (registers ++ (nzcv ++ tags)) (answer_long _ _) c.put_answer-x0.ensures.out_after c.put_answer-x0.ensures.value;
    }
