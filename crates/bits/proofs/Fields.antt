-- Laws of fields: shifts and masks are `/` and `%`, and a number is the sum of its fields. Assumes nothing.
use mathlib.Core.Path.{◌≡◌, ap, ap₂, sym, ◌∙◌}
use Prim.Native.Nat.{ℕ, ◌+◌, ◌-◌, ◌*◌, ◌/◌, ◌%◌, ◌^◌, ◌<◌}
use native.Mathlib.Omega.{arith}
use native.Mathlib.Nat.{one-mul, add_comm, add-mul, mul_assoc, mod-lt, mod-eq_of_lt}
use lib.Bits.{bit_and, bit_or, and_mask, or_shifted}
use lib.Pow.{shl_exact, shl_lt, pow_pos, pow-add, mod-pow-add, split}
use lib.Dec.{lit<}
use Rattle.bits.specs.Fields.{bits_at, with_bits}

-- a field is below its power of two
pub field_lt : (w low width : ℕ) → bits_at w low width < 2 ^ width
field_lt w low width = mod-lt (w / 2 ^ low) (pow_pos width)

-- one, shifted by less than 64
pub one_shifted : (k : ℕ) → k < 64 → 1 * 2 ^ k % 2 ^ 64 ≡ 2 ^ k
one_shifted k h = shl_exact 1 k 64 (lit< tt) (omega arith) ∙ one-mul (2 ^ k)

-- a field by a shift and a mask
pub shift_mask : (w low width : ℕ) → width < 64 → bit_and (w / 2 ^ low) (1 * 2 ^ width % 2 ^ 64 - 1) ≡ bits_at w low width
shift_mask w low width h =
    ap (λ (m : ℕ). bit_and (w / 2 ^ low) (m - 1)) (one_shifted width h) ∙ and_mask (w / 2 ^ low) width

-- a number as what is above a field, the field and what is below it
parts : (w low width : ℕ) → w / 2 ^ (low + width) * 2 ^ (low + width) + bits_at w low width * 2 ^ low + w % 2 ^ low ≡ w
parts w low width =
    let e : w % 2 ^ (low + width) ≡ bits_at w low width * 2 ^ low + w % 2 ^ low =
    ap (λ (k : ℕ). w % 2 ^ k) (add_comm low width) ∙ mod-pow-add w width low in
    omega (arith, split w (low + width))

-- three such parts, joined by `|`
joined : (h v l low width : ℕ) → v < 2 ^ width → l < 2 ^ low
    → bit_or (bit_or (h * 2 ^ (low + width)) (v * 2 ^ low)) l ≡ h * 2 ^ (low + width) + v * 2 ^ low + l
joined h v l low width hv hl =
    let p : 2 ^ (low + width) ≡ 2 ^ width * 2 ^ low = ap (λ (k : ℕ). 2 ^ k) (add_comm low width) ∙ pow-add 2 width low in
    let s : v * 2 ^ low < 2 ^ (low + width) = rw (add_comm low width) (shl_lt width low hv) in
    let e : h * 2 ^ (low + width) + v * 2 ^ low ≡ (h * 2 ^ width + v) * 2 ^ low =
    ap (λ (k : ℕ). h * k + v * 2 ^ low) p
    ∙ ap (λ (k : ℕ). k + v * 2 ^ low) (sym (mul_assoc h (2 ^ width) (2 ^ low)))
    ∙ sym (add-mul (h * 2 ^ width) v (2 ^ low)) in
    ap (λ (k : ℕ). bit_or k l) (or_shifted h (low + width) (v * 2 ^ low) s ∙ e)
    ∙ or_shifted (h * 2 ^ width + v) low l hl
    ∙ ap (λ (k : ℕ). k + l) (sym e)

-- a field put in by shifts and `|`
pub shift_or : (w low width v : ℕ) → w < 2 ^ 64 → low + width < 64 → v < 2 ^ width
    → bit_or (bit_or (w / 2 ^ (low + width) * 2 ^ (low + width) % 2 ^ 64) (v * 2 ^ low % 2 ^ 64)) (bits_at w 0 low)
    ≡ with_bits w low width v
shift_or w low width v hw h hv =
    let k = low + width in
    let above : w / 2 ^ k * 2 ^ k % 2 ^ 64 ≡ w / 2 ^ k * 2 ^ k = mod-eq_of_lt (omega (arith, split w k)) in
    let here : v * 2 ^ low % 2 ^ 64 ≡ v * 2 ^ low = shl_exact width low 64 hv (omega arith) in
    let below : bits_at w 0 low ≡ w % 2 ^ low = ap (λ (n : ℕ). n % 2 ^ low) (omega arith) in
    ap₂ (λ (a b : ℕ). bit_or (bit_or a (v * 2 ^ low % 2 ^ 64)) b) above below
    ∙ ap (λ (n : ℕ). bit_or (bit_or (w / 2 ^ k * 2 ^ k) n) (w % 2 ^ low)) here
    ∙ joined (w / 2 ^ k) v (w % 2 ^ low) low width hv (mod-lt w (pow_pos low))
    ∙ omega (arith, parts w low width)

-- a field put in where there was none
pub put_clear : (w low width v : ℕ) → bits_at w low width ≡ 0 → with_bits w low width v ≡ w + v * 2 ^ low
put_clear w low width v e = ap (λ (f : ℕ). w - f * 2 ^ low + v * 2 ^ low) e ∙ omega arith

-- fields and remainders as unknowns, so that a number is the sum of its fields by linear arithmetic

unfoldable pub bits : ℕ → ℕ → ℕ → ℕ
bits w low width = bits_at w low width

unfoldable pub lows : ℕ → ℕ → ℕ
lows w k = w % 2 ^ k

pub lows_up : (w low width : ℕ) → lows w (width + low) ≡ bits w low width * 2 ^ low + lows w low
unfolding bits lows
lows_up w low width = mod-pow-add w width low

pub lows_ends : (w k : ℕ) → w < 2 ^ k → (lows w k ≡ w) × (lows w 0 ≡ 0)
unfolding lows
lows_ends w k h = (mod-eq_of_lt h, omega arith)
