-- Laws of differences modulo 2^64 and of their flags. Assumes nothing.
use Rattle.std.proofs.Common.{◌≡◌, ℕ, zero, suc, ◌+◌, ◌-◌, ◌*◌, ◌%◌, ◌^◌, ◌<◌, ◌≤◌, Bool, true, false, cond, eqb, leb, ◌⊎◌, refl, inl, inr, arith, eq-eqb, ne_eqb, leb-false, leb-true}
use Rattle.bits.specs.Fields.{bits_at}
use Rattle.bits.proofs.Fields.{field_lt}
use Rattle.instructions.specs.RegisterWords.{extended, sum_with_carry, signed_plus, flags_of, complement}

-- what a wrapping difference is
pub subtracted : (r a b : ℕ) → r < 2 ^ 64 → b < 2 ^ 64 → (r + b) % 2 ^ 64 ≡ a → r ≡ (a + (2 ^ 64 - b)) % 2 ^ 64
subtracted r a b p q e = omega arith

-- and by Arm's AddWithCarry
pub complemented : (r a b : ℕ) → r < 2 ^ 64 → b < 2 ^ 64 → (r + b) % 2 ^ 64 ≡ a → r ≡ sum_with_carry a (complement b) 1
complemented r a b p q e = omega arith

-- a pointer sign-extended is below 2^64, and lies at one end of the numbers or at the other

pub extended_lt : (v : ℕ) → extended v < 2 ^ 64
extended_lt v = omega arith

abbrev AtEnds : ℕ → Type 0
AtEnds v = (v < 2 ^ 55) ⊎ (2 ^ 64 - 2 ^ 55 ≤ v)

ends : (v : ℕ) → AtEnds (extended v)
ends v = go (bits_at v 55 1) refl (field_lt v 55 1)
  where
    go : (sign : ℕ) → bits_at v 55 1 ≡ sign → sign < 2 → AtEnds (bits_at v 0 56 + sign * (2 ^ 64 - 2 ^ 56))
    go zero e h = inl (omega arith)
    go (suc zero) e h = inr (omega arith)
    go (suc (suc n)) e h = absurd (omega arith)

-- Z as the code has it
zero_flag : (t : Bool) → cond t 4 0 ≡ cond t 1 0 * 4
zero_flag true = refl
zero_flag false = refl

-- C is set where nothing is borrowed
carry_flag : (a b : ℕ) → a < 2 ^ 64 → b < 2 ^ 64
    → cond (leb b a) 2 0 ≡ cond (eqb (sum_with_carry a (complement b) 1) (a + complement b + 1)) 0 1 * 2
carry_flag a b p q = go (leb b a) refl
  where
    go : (t : Bool) → leb b a ≡ t → cond t 2 0 ≡ cond (eqb (sum_with_carry a (complement b) 1) (a + complement b + 1)) 0 1 * 2
    go true e =
        let h = leb-true b a e in rw (ne_eqb (sum_with_carry a (complement b) 1) (a + complement b + 1) (λ same. absurd (omega arith)))
    go false e = let h = leb-false b a e in rw (eq-eqb (sum_with_carry a (complement b) 1) (a + complement b + 1) (omega arith))

-- V is never set: both values have 56 significant bits
signed_sum : (a b : ℕ) → a < 2 ^ 64 → b < 2 ^ 64 → AtEnds a → AtEnds b
    → signed_plus (sum_with_carry a (complement b) 1) + 2 ^ 63 ≡ signed_plus a + signed_plus (complement b) + 1
signed_sum a b p q (inl h) (inl k) = omega arith
signed_sum a b p q (inl h) (inr k) = omega arith
signed_sum a b p q (inr h) (inl k) = omega arith
signed_sum a b p q (inr h) (inr k) = omega arith

-- SUBPS never sets V: the difference of two pointers sign-extended has its own sign
pub no_overflow : (v w : ℕ) → signed_plus (sum_with_carry (extended v) (complement (extended w)) 1) + 2 ^ 63
    ≡ signed_plus (extended v) + signed_plus (complement (extended w)) + 1
no_overflow v w = signed_sum (extended v) (extended w) (extended_lt v) (extended_lt w) (ends v) (ends w)

pub difference_flags_lem : (a b r : ℕ) → r ≡ sum_with_carry (extended a) (complement (extended b)) 1
    → bits_at r 63 1 * 8 + cond (eqb r 0) 4 0 + cond (leb (extended b) (extended a)) 2 0 ≡ flags_of (extended a) (complement (extended b)) 1
difference_flags_lem a b r e =
    rw (
      e,
      zero_flag (eqb (sum_with_carry (extended a) (complement (extended b)) 1) 0),
      carry_flag (extended a) (extended b) (extended_lt a) (extended_lt b),
      eq-eqb (signed_plus (sum_with_carry (extended a) (complement (extended b)) 1) + 2 ^ 63) (signed_plus (extended a) + signed_plus (complement (extended b)) + 1)
          (no_overflow a b),
    ) (omega arith)
