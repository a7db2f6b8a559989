-- `session_text::printer::put_registers` meets its contract. Assumes nothing.
use mathlib.Core.Path.{◌∙◌}
use native.Mathlib.Omega.{arith}
use Rattle.session_text.specs.Printing.{register_lines}
use Rattle.session_text.proofs.Printed.{then}
use Rattle.session_text.proofs.printer.put_registers.Goals as goal

pub returns : goal.returns
unfolding register_lines
returns c = let l4 = c in
    let l3 = l4 in
    let l2 = l3 in
    let l1 = l2 in
    record {
      value = omega arith;
      out_after = (l4.put_line.ensures.out_after
          ∙ then _ _ _ _ _ _ _ _ l3.put_line-sp.ensures.out_after l3.put_line-sp.ensures.value
          ∙ then _ _ _ _ _ _ _ _ l2.put_line-x2.ensures.out_after l2.put_line-x2.ensures.value
          ∙ then _ _ _ _ _ _ _ _ l1.put_line-x1.ensures.out_after l1.put_line-x1.ensures.value);
    }
