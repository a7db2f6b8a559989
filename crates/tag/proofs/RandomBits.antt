-- Laws of the random bits: the bound of the seed, and the four bits drawn at once. Assumes nothing.
use mathlib.Core.Path.{◌≡◌, refl}
use Prim.Native.Nat.{ℕ, zero, suc, ◌+◌, ◌/◌, ◌%◌, ◌<◌}
use native.Mathlib.Nat.{mod-lt}
use native.Mathlib.Omega.{arith}
use lib.Bits.{bit_xor, xor_add_and, xor_shr}
use Rattle.bits.specs.Fields.{bits_at, with_bits}
use Rattle.tag.specs.RandomBits.{random_bit, next_seed, bits_drawn, seed_drawn}

bit_lt : (seed : ℕ) → random_bit seed < 2
unfolding random_bit
bit_lt seed = mod-lt _ (omega arith)

next_seed_lt : (seed : ℕ) → seed < 65536 → next_seed seed < 65536
unfolding next_seed
next_seed_lt seed h = omega (arith, bit_lt seed)

seed_drawn_lt : (n seed : ℕ) → seed < 65536 → seed_drawn n seed < 65536
unfolding seed_drawn
seed_drawn_lt zero seed h = h
seed_drawn_lt (suc n) seed h = seed_drawn_lt n (next_seed seed) (next_seed_lt seed h)

-- the seed after the four bits
pub seed_lt : (seed : ℕ) → seed < 65536 → seed_drawn 4 seed < 65536
seed_lt seed h = seed_drawn_lt 4 seed h

-- ---- the four bits at once

-- the seed bits added mod 2, at every place: the lowest is the random bit
abbrev added : ℕ → ℕ
added s = bit_xor (bit_xor (bit_xor (s / 32) (s / 8)) (s / 4)) s

xor_odd : (a b c : ℕ) {d : ℕ} → a % 2 ≡ c % 2 → b % 2 ≡ d → bit_xor a b % 2 ≡ (c + d) % 2
xor_odd a b c e f = omega (arith, xor_add_and a b)

added_bit : (s : ℕ) → added s % 2 ≡ random_bit s
unfolding random_bit
added_bit s =
    xor_odd _ s _ (xor_odd _ (s / 4) _ (xor_odd (s / 32) (s / 8) (s / 32 % 2) (omega arith) refl) refl) (omega arith)

added_half : (s : ℕ) → added s / 2 ≡ added (s / 2)
added_half s =
    let five : s / 32 / 2 ≡ s / 2 / 32 = omega arith in
    let three : s / 8 / 2 ≡ s / 2 / 8 = omega arith in
    let two : s / 4 / 2 ≡ s / 2 / 4 = omega arith in
    let a = bit_xor (s / 32) (s / 8) in
    rw (xor_shr (bit_xor a (s / 4)) s 1, xor_shr a (s / 4) 1, xor_shr (s / 32) (s / 8) 1, five, three, two)

-- the random bit depends on the six low bits
low_bit : (s t : ℕ) → s % 64 ≡ t % 64 → random_bit s ≡ random_bit t
unfolding random_bit
low_bit s t e =
    let five : s / 32 % 2 ≡ t / 32 % 2 = omega arith in
    let three : s / 8 % 2 ≡ t / 8 % 2 = omega arith in
    let two : s / 4 % 2 ≡ t / 4 % 2 = omega arith in
    let none : s / 1 % 2 ≡ t / 1 % 2 = omega arith in
    rw (five, three, two, none)

-- of the four bits drawn none has come down to those yet
pub at_once : (s : ℕ) → s < 65536
    → (bits_at (added s) 0 4 ≡ bits_drawn 4 s) × (with_bits (s / 16) 12 4 (bits_drawn 4 s) ≡ seed_drawn 4 s)
unfolding bits_drawn seed_drawn next_seed
at_once s h =
    let s₁ = s / 2 in
    let s₂ = s₁ / 2 in
    let s₃ = s₂ / 2 in
    let t₁ = next_seed s in
    let t₂ = next_seed t₁ in
    let t₃ = next_seed t₂ in (
      omega (
        arith,
        low_bit t₁ s₁ (omega arith),
        low_bit t₂ s₂ (omega arith),
        low_bit t₃ s₃ (omega arith),
        added_bit s,
        added_bit s₁,
        added_bit s₂,
        added_bit s₃,
        added_half s,
        added_half s₁,
        added_half s₂,
      ),
      omega (arith, bit_lt s, bit_lt t₁, bit_lt t₂, bit_lt t₃),
    )
