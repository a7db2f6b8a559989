-- `text::put_digits` meets its contract. Assumes nothing.
use Rattle.std.proofs.Common.{arith, ◌≡◌, sym, ◌∙◌, length}
use Rattle.std.proofs.Math.Seq.{drop-length}
use Rattle.text.specs.Hex.{digits_text}
use Rattle.text.proofs.Writing.{digits_text_turn}
use Rattle.text.proofs.put_digits.Goals as goal

pub loop-i-preserved : goal.loop-i-preserved
loop-i-preserved c =
    c.loop-i.invariant
    ∙ digits_text_turn c.loop-i.out c.args.at c.args.t.now c.loop-i.i c.digit.result (omega arith) (cc)

pub returns : goal.returns
unfolding digits_text
returns c =
    let done : c.loop-i.i ≡ length c.args.t.now = omega arith in
    sym (c.loop-i.invariant ∙ rw (done, drop-length))
