-- `text::put_hex` meets its contract. Assumes nothing.
use Rattle.std.proofs.Common.{ℕ, suc, ◌-◌, arith, ◌≡◌, sym, ap, ◌∙◌}
use Rattle.std.proofs.lemmas.List.Edits.{sets}
use Rattle.text.specs.Hex.{hex_digits}
use Rattle.text.proofs.Writing.{digits_turn}
use Rattle.text.proofs.put_hex.Goals as goal

pub loop-i-preserved : goal.loop-i-preserved
loop-i-preserved c =
    let step : c.loop-i.i ≡ suc (c.loop-i.i - 1) = omega arith in
    c.loop-i.invariant
    ∙ ap (λ (k : ℕ). sets c.loop-i.out c.args.at (hex_digits k c.loop-i.rest)) step
    ∙ digits_turn c.loop-i.out c.args.at (c.loop-i.i - 1) c.loop-i.rest c.digit.result c.digit.ensures

pub returns : goal.returns
unfolding hex_digits
returns c =
    let done : c.loop-i.i ≡ 0 = omega arith in
    sym (c.loop-i.invariant ∙ rw done)
