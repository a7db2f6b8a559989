use Rattle.std.proofs.Common.{◌∙◌, arith, refl, ap, length, get_or}
use Rattle.templates.specs.Templates.{piece_of}
use Rattle.templates.proofs.Rows.{fits}
use Rattle.templates.proofs.Writing.{piece_short, line_turn}
use Rattle.templates.proofs.PutLine.{finished}
use Rattle.templates.proofs.put_line.Goals as goal

pub loop-l-init : goal.loop-l-init
loop-l-init c = record { room = c.requires.out_len; short = omega arith; left = (omega arith, refl) }

pub put_piece-at-requires : goal.put_piece-at-requires
put_piece-at-requires c =
    omega (arith, fits c.args.row c.requires.row_bound, ap length c.template_at-l-items.ensures)

pub loop-l-preserved : goal.loop-l-preserved
loop-l-preserved c =
    let l = c.loop-l in
    let t = c.template_at-l-items.result.now in
    let p = c.put_piece-at in
    let b = get_or t l.l-index 0 in
    let turn = line_turn l.out l.at t c.args.f l.l-index b p.result p.new.out c.loop-l-test.true refl p.ensures in
    record {
      room = p.auto.out ∙ l.invariant.room;
      short = omega (arith, p.ensures.0, piece_short (piece_of b) b c.args.f);
      left = (l.invariant.left.0 ∙ turn.0, l.invariant.left.1 ∙ turn.1);
    }

pub returns : goal.returns
returns c =
    let whole = finished c.args.out.now _ c.template_at-l-items.result.now c.args.f c.loop-l.out c.loop-l.at c.loop-l.l-index (omega arith) c.template_at-l-items.ensures c.loop-l.invariant.left in
    record { value = whole.0; out_after = whole.1 }
