use Rattle.std.proofs.Common.{ap, ◌∙◌, length, arith}
use Rattle.std.proofs.lemmas.List.Edits.{sets}
use Rattle.listing.proofs.Lengths.{line_short, line_of_lem, line_taken}
use Rattle.listing.proofs.lines.line_of.Goals as goal

pub shared_ref_as_front-result : goal.shared_ref_as_front-result
shared_ref_as_front-result c =
    let e = line_of_lem c.args.form _ _ c.row_of.ensures c.fields_of.ensures in
    omega (arith, c.put_line-n.ensures.value, ap length e, line_short c.args.form)

pub returns : goal.returns
returns c =
    let p = c.put_line-n in
    let e = line_of_lem c.args.form _ _ c.row_of.ensures c.fields_of.ensures in
    line_taken c.args.room.now p.new.out p.result c.args.form (p.ensures.value ∙ ap length e) (p.ensures.out_after ∙ ap (sets c.args.room.now 0) e)
    (omega (arith, p.ensures.value, ap length e, line_short c.args.form))
