-- `text::put_bytes` meets its contract. Assumes nothing.
use Rattle.std.proofs.Common.{arith, ◌≡◌, sym, ◌∙◌, length}
use Rattle.std.proofs.Math.Seq.{drop-length}
use Rattle.text.proofs.Writing.{bytes_turn}
use Rattle.text.proofs.put_bytes.Goals as goal

pub loop-i-preserved : goal.loop-i-preserved
loop-i-preserved c = c.loop-i.invariant ∙ bytes_turn c.loop-i.out c.args.at c.args.t.now c.loop-i.i (omega arith)

pub returns : goal.returns
returns c =
    let done : c.loop-i.i ≡ length c.args.t.now = omega arith in
    sym (c.loop-i.invariant ∙ rw (done, drop-length))
