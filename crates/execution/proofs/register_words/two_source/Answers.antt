-- Assumes nothing.
use Rattle.std.proofs.Common.{◌≡◌, ℕ, None, sym, refl, arith, eq-eqb, ne_eqb}
use Rattle.bits.specs.Fields.{bits_at}
use Rattle.isa.specs.declared.TwoSourceOp.TheVariants.{Subp, Irg, Gmi}
use Rattle.isa.specs.Decoding.{two_source_at}
use Rattle.isa.specs.Inside.DecodingBranches.{if_bit21, two_source_branch}
use Rattle.isa.proofs.Branches.{at_key, other_bit}
use Rattle.execution.proofs.Taking.{took_form, took_undefined}
use Rattle.execution.proofs.register_words.two_source.Goals as goal

pub returns-then-field-ne0-clause-taken : goal.returns-then-field-ne0-clause-taken
returns-then-field-ne0-clause-taken c =
    let w = c.args.w in
    took_undefined (if_bit21 w 0 (two_source_branch (bits_at w 10 6) w)) (sym (other_bit w 0 c.field.ensures _ c.if-field-ne0.true))

pub returns-in-0-clause-taken : goal.returns-in-0-clause-taken
returns-in-0-clause-taken c =
    let w = c.args.w in
    took_form (two_source_at Subp w) (if_bit21 w 0 (two_source_branch (bits_at w 10 6) w)) refl
    (at_key w 0 c.field.ensures (λ (k : ℕ). two_source_branch k w) c.if-field-ne0.false c.field-2.ensures c.in-0.is refl)
    c.two_registers.ensures.taken

pub returns-in-4-clause-taken : goal.returns-in-4-clause-taken
returns-in-4-clause-taken c =
    let w = c.args.w in
    took_form (two_source_at Irg w) (if_bit21 w 0 (two_source_branch (bits_at w 10 6) w)) refl
    (at_key w 0 c.field.ensures (λ (k : ℕ). two_source_branch k w) c.if-field-ne0.false c.field-2.ensures c.in-4.is refl)
    c.two_registers-in-4.ensures.taken

pub returns-in-5-clause-taken : goal.returns-in-5-clause-taken
returns-in-5-clause-taken c =
    let w = c.args.w in
    took_form (two_source_at Gmi w) (if_bit21 w 0 (two_source_branch (bits_at w 10 6) w)) refl
    (at_key w 0 c.field.ensures (λ (k : ℕ). two_source_branch k w) c.if-field-ne0.false c.field-2.ensures c.in-5.is refl)
    c.two_registers-in-5.ensures.taken

pub returns-in_default-clause-taken : goal.returns-in_default-clause-taken
returns-in_default-clause-taken c =
    let w = c.args.w in
    let e : if_bit21 w 0 (two_source_branch (bits_at w 10 6) w) ≡ None =
    rw (← c.field.ensures, ← c.field-2.ensures)
    (simp (eq-eqb _ _ c.if-field-ne0.false, ne_eqb c.field-2.result 0 (λ e. omega arith), ne_eqb c.field-2.result 4 (λ e. omega arith), ne_eqb c.field-2.result 5 (λ e. omega arith))) in
    took_undefined (if_bit21 w 0 (two_source_branch (bits_at w 10 6) w)) e
