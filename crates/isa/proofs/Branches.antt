-- What a branch of the decoder finds once bit 21 is tested and a field is matched. Assumes nothing.
use Prim.Native.Nat.{ℕ}
use mathlib.Core.Path.{◌≡◌, sym, ap, ◌∙◌}
use borrow.Author.Tests.{eq-eqb, ne_eqb}
use Rattle.bits.specs.Fields.{bits_at}
use Rattle.std.proofs.Common.{Option, None}
use Rattle.isa.specs.declared.Form.{Form}
use Rattle.isa.specs.Inside.DecodingBranches.{if_bit21}

module _ (w bit : ℕ) {b : ℕ} (is : b ≡ bits_at w 21 1) where
  -- bit 21 is as it must be, and a field m has the value k
  pub at_key : (f : ℕ → Option Form) {m n k : ℕ} {r : Option Form} → b ≡ bit → m ≡ n → m ≡ k → r ≡ f k → r ≡ if_bit21 w bit (f n)
  at_key f taken field key e =
      e ∙ ap f (sym key ∙ field) ∙ sym (simp (eq-eqb (bits_at w 21 1) bit (sym is ∙ taken)))

  -- bit 21 is not
  pub other_bit : (found : Option Form) → (b ≡ bit → ⊥) → None ≡ if_bit21 w bit found
  other_bit found left = sym (simp (ne_eqb (bits_at w 21 1) bit (λ e. left (is ∙ e))))
