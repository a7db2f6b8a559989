-- `text::key_at` meets its contract. Assumes nothing.
use Rattle.std.proofs.Common.{arith, ◌≡◌, sym, ◌∙◌, length}
use Rattle.std.proofs.Math.Seq.{drop-length}
use Rattle.text.specs.Lines.{starts}
use Rattle.text.proofs.Reading.{starts_turn, starts_wrong}
use Rattle.text.proofs.key_at.Goals as goal

pub returns-then-k-s : goal.returns-then-k-s
returns-then-k-s c =
    let a = c.args in
    sym (c.loop-i.invariant ∙ starts_wrong a.key.now a.s.now a.at c.loop-i.i (omega arith) (omega arith) (λ e. omega arith))

pub loop-i-preserved : goal.loop-i-preserved
loop-i-preserved c =
    let a = c.args in
    c.loop-i.invariant ∙ starts_turn a.key.now a.s.now a.at c.loop-i.i (omega arith) (omega arith) (omega arith)

pub returns : goal.returns
unfolding starts
returns c =
    let done : c.loop-i.i ≡ length c.args.key.now = omega arith in
    sym (c.loop-i.invariant ∙ rw (done, drop-length))
