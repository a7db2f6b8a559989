use Rattle.std.proofs.Common.{refl, arith, sym, ◌∙◌}
use Rattle.templates.specs.Templates.{templates}
use Rattle.templates.proofs.FirstRows.{row_asked, no_row}
use Rattle.templates.proofs.reader.first_row.Goals as goal

pub loop-row-init : goal.loop-row-init
unfolding templates
loop-row-init c = record { table = record { same = refl }; on = refl }

pub returns-in-Some : goal.returns-in-Some
returns-in-Some c =
    let l = c.loop-row in
    sym (l.invariant.on ∙ row_asked _ _ l.row c.args.s.now _ l.invariant.table c.read_by.ensures (omega arith) ∙ rw c.in-Some.is)

pub loop-row-preserved : goal.loop-row-preserved
loop-row-preserved c =
    let l = c.loop-row in
    record {
      table = l.invariant.table;
      on = l.invariant.on ∙ row_asked _ _ l.row c.args.s.now _ l.invariant.table c.read_by.ensures (omega arith) ∙ rw c.in_default.is;
    }

pub returns : goal.returns
returns c =
    sym (c.loop-row.invariant.on ∙ no_row c.args.s.now c.loop-row.row (omega arith))
