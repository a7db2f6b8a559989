-- Assumes nothing.
use Rattle.std.proofs.Common.{◌≡◌, ◌*◌, ◌%◌, ◌^◌, sym, ◌∙◌, arith, eq-eqb, ne_eqb}
use Rattle.bits.specs.Fields.{bits_at}
use Rattle.isa.specs.Inside.DecodingBranches.{add_sub_branch}
use Rattle.machine.specs.Codes.{lowest}
use Rattle.execution.specs.Calls.{done}
use Rattle.execution.specs.Simulation.{standing}
use Rattle.execution.specs.Inside.Taking.{form_taken, decoded_taken, register_taken}
use Rattle.execution.proofs.Taking.{took_done, took_refused}
use Rattle.execution.proofs.register_words.add_sub.Goals as goal

pub returns-then-field-ne0-clause-taken : goal.returns-then-field-ne0-clause-taken
unfolding decoded_taken
returns-then-field-ne0-clause-taken c =
    took_refused (decoded_taken (add_sub_branch c.args.op c.args.w)) (simp (ne_eqb _ _ (rw c.field.ensures at c.if-field-ne0.true)))

pub returns-clause-taken : goal.returns-clause-taken
unfolding decoded_taken form_taken lowest
returns-clause-taken c =
    let a = c.args in
    let s = standing a.setup.now a.history.now in
    let amount : c.field-amount.result * 2 ^ 4 % 2 ^ 64 ≡ bits_at a.w 16 6 * 16 = omega arith in
    let zero : bits_at a.w 14 2 ≡ 0 = sym c.field.ensures ∙ c.if-field-ne0.false in
    let p : decoded_taken (add_sub_branch a.op a.w) s ≡ done (register_taken c.field-d.result c.add_sub-v.result s) =
    simp (eq-eqb _ _ zero) (rw (
      c.add_sub-v.ensures,
      c.x_or_sp-operand.ensures,
      amount,
      c.field-d.ensures,
      c.field-n.ensures,
      c.field-offset.ensures,
    )) in
    took_done (decoded_taken (add_sub_branch a.op a.w)) p c.set.ensures.taken
