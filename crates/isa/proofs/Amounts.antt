-- An amount of bytes and the field that counts its granules, both ways. Assumes nothing.
use Prim.Native.Nat.{ℕ, ◌+◌, ◌-◌, ◌*◌, ◌/◌, ◌%◌, ◌^◌, ◌≤◌, ◌<◌}
use mathlib.Core.Path.{◌≡◌, refl, ap, ◌∙◌}
use mathlib.Core.Bool.{Bool, true, false, cond, ◌&&◌, ◌||◌, and-eq-true_iff}
use native.Mathlib.Nat.{add-mul, add-mul-mod_self_right, mod-eq_of_lt}
use native.Mathlib.Omega.{arith}
use lib.Dec.{ltb, leb, eqb}
use lib.Pow.{pow-add, pow_pos}
use borrow.Author.Tests.{eq-eqb, lt-ltb, le-ltb, le-leb, lt-leb, ltb-true, ltb-false, leb-true, eqb-true}
use Rattle.isa.specs.Words.{granule_count}
use Rattle.isa.specs.Decoding.{signed_amount}
use Rattle.isa.specs.Encoding.{amount_in}

-- the two ways to be in range, to an amount and from it

in_low : (low high a : ℕ) → a % 16 ≡ 0 → a ≤ high → amount_in low high a ≡ true
in_low low high a z l = simp (eq-eqb (a % 16) 0 z, le-leb a high l)

in_high : (low high a : ℕ) → a % 16 ≡ 0 → high < a → a < 2 ^ 64 → 2 ^ 64 - low ≤ a → amount_in low high a ≡ true
in_high low high a z l m n = simp (eq-eqb (a % 16) 0 z, lt-leb a high l, lt-ltb a (2 ^ 64) m, le-leb (2 ^ 64 - low) a n)

in_cases : (low high amount : ℕ) → amount_in low high amount ≡ true → (P : Type 0)
    → (amount % 16 ≡ 0 → amount ≤ high → P)
    → (amount % 16 ≡ 0 → amount < 2 ^ 64 → 2 ^ 64 - low ≤ amount → P)
    → P
in_cases low high amount h P f g =
    go (leb amount high) refl ((and-eq-true_iff (eqb (amount % 16) 0) (leb amount high || above)).0 h).1
  where
    above : Bool
    above = ltb amount (2 ^ 64) && leb (2 ^ 64 - low) amount

    whole : amount % 16 ≡ 0
    whole = eqb-true (amount % 16) 0 ((and-eq-true_iff (eqb (amount % 16) 0) (leb amount high || above)).0 h).0

    go : (t : Bool) → leb amount high ≡ t → (t || above) ≡ true → P
    go true e k = f whole (leb-true amount high e)
    go false e k =
        g whole (ltb-true amount (2 ^ 64) ((and-eq-true_iff (ltb amount (2 ^ 64)) (leb (2 ^ 64 - low) amount)).0 k).0)
        (leb-true (2 ^ 64 - low) amount ((and-eq-true_iff (ltb amount (2 ^ 64)) (leb (2 ^ 64 - low) amount)).0 k).1)

-- unsigned amounts

pub unsigned_count : (imm : ℕ) → imm < 64 → granule_count 6 (imm * 16) ≡ imm
unsigned_count imm h = omega arith

pub unsigned_in : (imm : ℕ) → imm < 64 → amount_in 0 1008 (imm * 16) ≡ true
unsigned_in imm h = in_low 0 1008 (imm * 16) (omega arith) (omega arith)

pub unsigned_back : (amount : ℕ) → amount_in 0 1008 amount ≡ true → granule_count 6 amount * 16 ≡ amount
unsigned_back amount h =
    in_cases 0 1008 amount h (granule_count 6 amount * 16 ≡ amount) (λ z l. omega arith) (λ z l m. omega arith)

-- signed amounts

-- a signed count is the count itself, or as far below 2 ^ 64 as it is below its end
signed_cases : (half imm : ℕ) (P : ℕ → Type 0)
    → (imm < half → P (imm * 16)) → (half ≤ imm → P (2 ^ 64 - (2 * half - imm) * 16)) → P (signed_amount half imm)
signed_cases half imm P f g = go (ltb imm half) refl
  where
    go : (t : Bool) → ltb imm half ≡ t → P (cond t (imm * 16) (2 ^ 64 - (2 * half - imm) * 16))
    go true e = f (ltb-true imm half e)
    go false e = g (ltb-false imm half e)

signed_low : (half imm amount : ℕ) → imm < half → imm * 16 ≡ amount → signed_amount half imm ≡ amount
signed_low half imm amount l e = simp (lt-ltb imm half l) e

signed_high : (half imm amount : ℕ) → half ≤ imm → imm < 2 * half → half ≤ 256 → amount + (2 * half - imm) * 16 ≡ 2 ^ 64
    → signed_amount half imm ≡ amount
signed_high half imm amount l m k e = simp (le-ltb imm half l) (omega arith)

-- 2 ^ 60 less a count is the count's complement in a field
wrapped : (width n : ℕ) → width ≤ 60 → 0 < n → n ≤ 2 ^ width → (2 ^ 60 - n) % 2 ^ width ≡ 2 ^ width - n
wrapped width n h pos le =
    let q = 2 ^ (60 - width) in
    let width-in-60 : 60 ≡ 60 - width + width = omega arith in
    let whole : 2 ^ 60 ≡ q * 2 ^ width = ap (λ (k : ℕ). 2 ^ k) width-in-60 ∙ pow-add 2 (60 - width) width in
    let one_less : q ≡ q - 1 + 1 = omega (arith, pow_pos (60 - width)) in
    let apart : q * 2 ^ width ≡ (q - 1) * 2 ^ width + 1 * 2 ^ width =
    ap (λ (k : ℕ). k * 2 ^ width) one_less ∙ add-mul (q - 1) 1 (2 ^ width) in
    let sum : 2 ^ 60 - n ≡ 2 ^ width - n + (q - 1) * 2 ^ width = omega arith in
    ap (λ (k : ℕ). k % 2 ^ width) sum
    ∙ add-mul-mod_self_right (2 ^ width - n) (q - 1) (2 ^ width)
    ∙ mod-eq_of_lt (omega arith)

-- a field of some width, half of whose values are not negative, and the amounts that it counts
module _ (width half low high : ℕ) (sized : 2 ^ width ≡ 2 * half) (wide : width ≤ 60) (narrow : half ≤ 256)
    (lowest : low ≡ half * 16) (highest : high + 16 ≡ half * 16) where
  signed_count : (imm : ℕ) → imm < 2 * half → granule_count width (signed_amount half imm) ≡ imm
  signed_count imm h =
      signed_cases half imm (λ (a : ℕ). granule_count width a ≡ imm)
      (λ l. ap (λ (k : ℕ). k % 2 ^ width) (omega arith) ∙ mod-eq_of_lt (omega arith))
      (λ l. ap (λ (k : ℕ). k % 2 ^ width) (omega arith) ∙ wrapped width (2 * half - imm) wide (omega arith) (omega arith) ∙ omega arith)

  signed_in : (imm : ℕ) → imm < 2 * half → amount_in low high (signed_amount half imm) ≡ true
  signed_in imm h =
      signed_cases half imm (λ (a : ℕ). amount_in low high a ≡ true)
      (λ lt. in_low low high (imm * 16) (omega arith) (omega arith))
      (λ ge. in_high low high (2 ^ 64 - (2 * half - imm) * 16) (omega arith) (omega arith) (omega arith) (omega arith))

  signed_back : (amount : ℕ) → amount_in low high amount ≡ true
      → signed_amount half (granule_count width amount) ≡ amount
  signed_back amount h =
      in_cases low high amount h (signed_amount half (granule_count width amount) ≡ amount)
      (λ z l.
      let e : granule_count width amount ≡ amount / 16 = mod-eq_of_lt (omega arith) in
      signed_low half (granule_count width amount) amount (omega arith) (omega arith))
      (λ z l m.
      let n = 2 ^ 60 - amount / 16 in
      let e : granule_count width amount ≡ 2 ^ width - n =
      ap (λ (k : ℕ). k % 2 ^ width) (omega arith) ∙ wrapped width n wide (omega arith) (omega arith) in
      signed_high half (granule_count width amount) amount (omega arith) (omega arith) (omega arith) (omega arith))

-- imm9 and simm7

pub imm9_count : (imm : ℕ) → imm < 512 → granule_count 9 (signed_amount 256 imm) ≡ imm
imm9_count = signed_count 9 256 4096 4080 refl (omega arith) (omega arith) refl refl

pub imm9_in : (imm : ℕ) → imm < 512 → amount_in 4096 4080 (signed_amount 256 imm) ≡ true
imm9_in = signed_in 9 256 4096 4080 refl (omega arith) (omega arith) refl refl

pub imm9_back : (amount : ℕ) → amount_in 4096 4080 amount ≡ true → signed_amount 256 (granule_count 9 amount) ≡ amount
imm9_back = signed_back 9 256 4096 4080 refl (omega arith) (omega arith) refl refl

pub simm7_count : (imm : ℕ) → imm < 128 → granule_count 7 (signed_amount 64 imm) ≡ imm
simm7_count = signed_count 7 64 1024 1008 refl (omega arith) (omega arith) refl refl

pub simm7_in : (imm : ℕ) → imm < 128 → amount_in 1024 1008 (signed_amount 64 imm) ≡ true
simm7_in = signed_in 7 64 1024 1008 refl (omega arith) (omega arith) refl refl

pub simm7_back : (amount : ℕ) → amount_in 1024 1008 amount ≡ true → signed_amount 64 (granule_count 7 amount) ≡ amount
simm7_back = signed_back 7 64 1024 1008 refl (omega arith) (omega arith) refl refl
