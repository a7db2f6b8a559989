-- `text::hex_at` meets its contract: a byte of the part is a byte of the text. Assumes nothing.
use Rattle.std.proofs.Common.{arith, ◌≡◌, ◌+◌, ◌-◌, sym, ap, ◌∙◌}
use Rattle.std.proofs.lemmas.List.Edits.{get_or-between}
use Rattle.text.specs.Hex.{read_hex, digit_value}
use Rattle.text.proofs.Reading.{digit_small, read_turn, read_wrong, pow_turn, pow_room}
use Rattle.text.proofs.hex_at.Goals as goal

pub overflow_mul-v : goal.overflow_mul-v
overflow_mul-v c = omega (arith, pow_room c.args.n c.loop-b.b-index c.loop-b.v 0 (omega arith) (omega arith) c.loop-b.invariant.below (omega arith))

pub returns-in_err-v : goal.returns-in_err-v
returns-in_err-v c =
    let a = c.args in
    let i = c.loop-b.b-index in
    let none = sym (c.in_err-v.ensures) in
    c.from_residual.ensures
    ∙ sym (c.loop-b.invariant.rest
    ∙ read_wrong a.s.now a.at a.n i c.loop-b.v (omega arith) (omega arith) (ap digit_value (sym (get_or-between a.s.now a.at (a.at + a.n) i 0 (omega arith))) ∙ none))

pub overflow_add-v : goal.overflow_add-v
overflow_add-v c =
    let small = digit_small _ _ (sym (c.in_ok-v.ensures)) in
    omega (arith, pow_room c.args.n c.loop-b.b-index c.loop-b.v c.in_ok-v.field-0 (omega arith) (omega arith) c.loop-b.invariant.below small)

pub loop-b-preserved : goal.loop-b-preserved
loop-b-preserved c =
    let a = c.args in
    let i = c.loop-b.b-index in
    let some = sym (c.in_ok-v.ensures) in
    record {
      below = pow_turn i c.loop-b.v c.in_ok-v.field-0 c.loop-b.invariant.below (digit_small _ _ some);
      rest = c.loop-b.invariant.rest
          ∙ read_turn a.s.now a.at a.n i c.loop-b.v (omega arith) (omega arith) c.in_ok-v.field-0 (ap digit_value (sym (get_or-between a.s.now a.at (a.at + a.n) i 0 (omega arith))) ∙ some);
    }

pub returns : goal.returns
unfolding read_hex
returns c =
    let done : c.args.n - c.loop-b.b-index ≡ 0 = omega arith in
    sym (c.loop-b.invariant.rest ∙ rw done)
