-- `session_lines::put_lines` meets its contract. Assumes nothing.
use Rattle.std.proofs.Common.{arith, sym, ap, ◌∙◌, length}
use Rattle.std.proofs.lemmas.List.Edits.{sets}
use Rattle.session_lines.proofs.Putting.{lines_left, lines_turn, no_more}
use Rattle.session_lines.proofs.put_lines.Goals as goal

pub put_nth_line-at-requires : goal.put_nth_line-at-requires
put_nth_line-at-requires c = omega (arith, lines_left c.loop-i.i c.args.v.now (omega arith))

pub loop-i-preserved : goal.loop-i-preserved
loop-i-preserved c =
    let i = c.loop-i.i in
    let line = c.put_nth_line-at.ensures in
    record {
      left = omega (arith, lines_left i c.args.v.now (omega arith), line.value, c.loop-i.invariant.left);
      put = c.loop-i.invariant.put ∙ lines_turn i c.args.v.now (omega arith) c.loop-i.out c.loop-i.at _ _ line.value line.out_after;
    }

pub returns : goal.returns
returns c =
    let l = c.loop-i in
    let none = no_more l.i c.args.v.now (omega arith) in
    record { value = omega (arith, ap length none, l.invariant.left); out_after = sym (l.invariant.put ∙ ap (sets l.out l.at) none) }
