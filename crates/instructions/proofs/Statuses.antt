-- The status that a form leaves. Assumes nothing.
use Rattle.std.proofs.Common.{ℕ, ◌+◌, ◌*◌, ◌^◌, ◌<◌, ◌≤◌, Bool, true, false, cond, eqb, arith}
use Rattle.bits.proofs.Fields.{field_lt}
use Rattle.bits.proofs.Bounds.{cond_lt}
use Rattle.isa.specs.declared.TwoSourceOp.TheVariants.{Subp, Subps, Irg, Gmi}
use Rattle.isa.specs.declared.Form.{Form}
use Rattle.isa.specs.declared.Form.TheVariants.{AddSub, TwoSource, Ldg, TagStore, Stgp}
use Rattle.tag.proofs.TagChoice.{chosen_lt}
use Rattle.machine.specs.declared.Status.{Status}
use Rattle.machine.specs.State.{State, with_nzcv}
use Rattle.machine.specs.Registers.{x_or_sp, x_or_zero}
use Rattle.instructions.specs.RegisterWords.{extended, sum_with_carry, signed_plus, flags_of, complement, random_tag, after_draw, mask_of}
use Rattle.instructions.specs.Inside.Effects.{form_effect}

four_bits : (n z c v : ℕ) → n < 2 → z < 2 → c < 2 → v < 2 → n * 8 + z * 4 + c * 2 + v ≤ 15
four_bits n z c v hn hz hc hv = omega arith

pub flags_le : (a b carry : ℕ) → flags_of a b carry ≤ 15
flags_le a b carry =
    four_bits _ _ _ _ (field_lt (sum_with_carry a b carry) 63 1) (cond_lt (eqb (sum_with_carry a b carry) 0) (omega arith) (omega arith))
    (cond_lt (eqb (sum_with_carry a b carry) (a + b + carry)) (omega arith) (omega arith))
    (cond_lt (eqb (signed_plus (sum_with_carry a b carry) + 2 ^ 63) (signed_plus a + signed_plus b + carry)) (omega arith) (omega arith))

random_tag_lt : (status : Status) (mask : ℕ) → status.rgsr ≤ 15 → random_tag status mask < 16
random_tag_lt status mask h = chosen_lt status.rgsr _ mask (omega arith)

-- what holds of the status as it is, with any flags and after any draw, holds of the status that a form leaves
module _ (P : Status → Type 0) (s : State) (kept : P s.registers.status)
    (flags : (nzcv : ℕ) → nzcv ≤ 15 → P (with_nzcv nzcv s.registers.status))
    (draw : (mask : ℕ) → P (after_draw s.registers.status mask)) where
  pub form_status : (f : Form) → P (form_effect f s).status
  form_status (AddSub op d n amount offset) = kept
  form_status (TwoSource Subp d n m) = kept
  form_status (TwoSource Subps d n m) =
      flags _ (flags_le (extended (x_or_sp s.registers.x n)) (complement (extended (x_or_sp s.registers.x m))) 1)
  form_status (TwoSource Irg d n m) = go s.settings.access
    where
      go : (t : Bool) → P (cond t (after_draw s.registers.status (mask_of s.settings (x_or_zero s.registers.x m))) s.registers.status)
      go true = draw (mask_of s.settings (x_or_zero s.registers.x m))
      go false = kept
  form_status (TwoSource Gmi d n m) = kept
  form_status (Ldg t n amount) = kept
  form_status (TagStore op mode t n amount) = kept
  form_status (Stgp mode t t2 n amount) = kept

-- NZCV and RGSR's tag stay at most 15
abbrev pub StatusInRange : Status → Type 0
StatusInRange status = (status.nzcv ≤ 15) × (status.rgsr ≤ 15)

pub form_statuses : (s : State) → StatusInRange s.registers.status → (f : Form) → StatusInRange (form_effect f s).status
form_statuses s (nzcv, rgsr) =
    form_status StatusInRange s (nzcv, rgsr)
    (λ flags k. (k, rgsr))
    (λ mask. (nzcv, omega (arith, random_tag_lt s.registers.status mask rgsr)))
