-- Assumes nothing.
use Rattle.std.proofs.Common.{◌≡◌, ℕ, Bool, true, false, cond, eqb, Option, None, sym, refl, ne_eqb}
use Rattle.bits.specs.Fields.{bits_at}
use Rattle.isa.specs.declared.TwoSourceOp.TheVariants.{Subps}
use Rattle.isa.specs.declared.Form.{Form}
use Rattle.isa.specs.Decoding.{two_source_at}
use Rattle.isa.specs.Inside.DecodingBranches.{if_bit21, subps_branch}
use Rattle.isa.proofs.Branches.{at_key, other_bit}
use Rattle.execution.proofs.Taking.{took_form, took_undefined}
use Rattle.execution.proofs.register_words.subps.Goals.{then-field-ne0-via-then-field-ne0, then-field-ne0-via-else-field-ne0+then-field-ne0-2}
use Rattle.execution.proofs.register_words.subps.Goals as goal

-- other bits 15:10
other_key : (w : ℕ) → (bits_at w 10 6 ≡ 0 → ⊥) → if_bit21 w 0 (subps_branch (bits_at w 10 6) w) ≡ None
other_key w h = simp (ne_eqb _ _ h) (go (eqb (bits_at w 21 1) 0))
  where
    go : (t : Bool) → cond {A = Option Form} t None None ≡ None
    go true = refl
    go false = refl

pub returns-then-field-ne0-clause-taken : goal.returns-then-field-ne0-clause-taken
returns-then-field-ne0-clause-taken c =
    let w = c.args.w in
    let e : if_bit21 w 0 (subps_branch (bits_at w 10 6) w) ≡ None =
    elim c.then-field-ne0.branch [ then-field-ne0-via-then-field-ne0 v ↦ sym (other_bit w 0 c.field.ensures _ v.if-field-ne0.true) | then-field-ne0-via-else-field-ne0+then-field-ne0-2 v ↦ other_key w (rw v.field-else-field-ne0.ensures at v.if-field-ne0-2.true) ] in
    took_undefined (if_bit21 w 0 (subps_branch (bits_at w 10 6) w)) e

pub returns-clause-taken : goal.returns-clause-taken
returns-clause-taken c =
    let w = c.args.w in
    took_form (two_source_at Subps w) (if_bit21 w 0 (subps_branch (bits_at w 10 6) w)) refl
    (at_key w 0 c.field.ensures (λ (k : ℕ). subps_branch k w) c.if-field-ne0.false c.field-else-field-ne0.ensures c.if-field-ne0-2.false refl)
    c.two_registers.ensures.taken
