-- Laws of tag choice: the walk ends, and what is chosen is a tag, admitted (that is, not masked) unless all are masked. Assumes nothing.
use mathlib.Core.Path.{◌≡◌, refl, sym, ap, ap₂, subst, ◌∙◌}
use mathlib.Core.Bool.{Bool, true, false, cond, true≢false}
use Prim.Native.Nat.{ℕ, zero, suc, ◌+◌, ◌-◌, ◌*◌, ◌/◌, ◌%◌, ◌^◌, ◌≤◌, ◌<◌}
use native.Mathlib.Nat.{not-suc-le-zero, pow-suc}
use native.Mathlib.Numerals.{one-add}
use native.Mathlib.Omega.{arith}
use lib.Dec.{eqb}
use lib.Pow.{pow_pos, pow-add, mod-pow-add, high, ones_lt, ones_split}
use borrow.Author.Tests.{eq-eqb, ne_eqb, eqb-true}
use Rattle.bits.specs.Fields.{bits_at}
use Rattle.bits.proofs.Bounds.{cond_lt}
use Rattle.tag.specs.TagChoice.{masked, next, skip, past, walk, chosen}

-- ---- the definitions by their cases

skip_suc : (n mask t : ℕ) {b : Bool} → masked mask t ≡ b → skip (suc n) mask t ≡ cond b (skip n mask (next t)) t
unfolding skip
skip_suc n mask t e = ap (λ b. cond b (skip n mask (next t)) t) e

pub walk_zero : (n mask t : ℕ) → n ≡ 0 → walk n mask t ≡ t
unfolding walk
walk_zero n mask t e = ap (λ (k : ℕ). walk k mask t) e

walk_less : (n mask t : ℕ) → 0 < n → walk n mask t ≡ walk (n - 1) mask (past mask (next t))
unfolding walk
walk_less zero mask t h = absurd (not-suc-le-zero h)
walk_less (suc n) mask t h =
    let e : n ≡ suc n - 1 = omega arith in
    ap (λ (k : ℕ). walk k mask (past mask (next t))) e

module _ (start offset mask : ℕ) where
  -- all masked: 0
  pub chosen_none : mask ≡ 65535 → chosen start offset mask ≡ 0
  unfolding chosen
  chosen_none e = simp (eq-eqb mask 65535 e)

  chosen_zero : (mask ≡ 65535 → ⊥) → offset ≡ 0 → chosen start offset mask ≡ past mask start
  unfolding chosen
  chosen_zero f e = simp (ne_eqb mask 65535 f, eq-eqb offset 0 e)

  pub chosen_walk : (mask ≡ 65535 → ⊥) → (offset ≡ 0 → ⊥) → chosen start offset mask ≡ walk offset mask start
  unfolding chosen
  chosen_walk f g = simp (ne_eqb mask 65535 f, ne_eqb offset 0 g)

-- ---- the chosen tag is below 16

skip_lt : (n mask t : ℕ) → t < 16 → skip n mask t < 16
unfolding skip
skip_lt zero mask t h = h
skip_lt (suc n) mask t h = cond_lt (masked mask t) (skip_lt n mask (next t) (omega arith)) h

walk_lt : (n mask t : ℕ) → t < 16 → walk n mask t < 16
unfolding walk
walk_lt zero mask t h = h
walk_lt (suc n) mask t h = walk_lt n mask _ (skip_lt 16 mask (next t) (omega arith))

pub chosen_lt : (start offset mask : ℕ) → start < 16 → chosen start offset mask < 16
unfolding chosen
chosen_lt start offset mask h =
    cond_lt (eqb mask 65535) (omega arith)
    (cond_lt (eqb offset 0) (skip_lt 16 mask start h) (walk_lt offset mask start h))

-- ---- the mask of all ones

-- it masks every tag
all_ones : (t : ℕ) → t < 16 → bits_at 65535 t 1 ≡ 1
all_ones t h =
    let k = 15 - t in
    let e : 16 ≡ suc k + t = omega arith in
    ap (λ (n : ℕ). (2 ^ n - 1) / 2 ^ t % 2) e ∙ ap (λ (n : ℕ). n / 2 ^ t % 2) (ones_split (suc k) t)
    ∙ ap (λ (n : ℕ). n % 2) (high (2 ^ suc k - 1) t (ones_lt t))
    ∙ omega (arith, pow-suc 2 k, pow_pos k)

admits : (mask t : ℕ) → t < 16 → masked mask t ≡ false → mask ≡ 65535 → ⊥
admits mask t h e m =
    true≢false (sym (eq-eqb (bits_at 65535 t 1) 1 (all_ones t h)) ∙ ap (λ (k : ℕ). masked k t) (sym m) ∙ e)

-- and no other does: a mask whose k low bits are set ends in k ones
ones : (k mask : ℕ) → ((i : ℕ) → i < k → masked mask i ≡ true) → mask % 2 ^ k ≡ 2 ^ k - 1
ones zero mask f = omega arith
ones (suc k) mask f =
    let low : mask % 2 ^ k ≡ 2 ^ k - 1 = ones k mask (λ i h. f i (omega arith)) in
    let bit : bits_at mask k 1 ≡ 1 = eqb-true _ _ (f k (omega arith)) in
    let e : mask % 2 ^ (1 + k) ≡ 1 * 2 ^ k + mask % 2 ^ k =
    mod-pow-add mask 1 k ∙ ap (λ (n : ℕ). n * 2 ^ k + mask % 2 ^ k) bit in
    subst (λ (n : ℕ). mask % 2 ^ n ≡ 2 ^ n - 1) (one-add k) (omega (arith, pow-add 2 1 k, pow_pos k))

-- ---- on past masked tags

-- where n moves lead to an admitted tag, one more is as good
skip_more : (n mask t : ℕ) → masked mask (skip n mask t) ≡ false → skip (suc n) mask t ≡ skip n mask t
unfolding skip
skip_more zero mask t h = skip_suc 0 mask t h
skip_more (suc n) mask t h = go (masked mask t) h (skip_more n mask (next t))
  where
    go : (b : Bool) → masked mask (cond b (skip n mask (next t)) t) ≡ false
        → (masked mask (skip n mask (next t)) ≡ false → skip (suc n) mask (next t) ≡ skip n mask (next t))
        → cond b (skip (suc n) mask (next t)) t ≡ cond b (skip n mask (next t)) t
    go true k more = more k
    go false k more = refl

-- where they lead to a masked tag, each tag on the way is masked
skip_first : (n mask t : ℕ) → masked mask (skip (suc n) mask t) ≡ true
    → (masked mask t ≡ true) × (masked mask (skip n mask (next t)) ≡ true)
unfolding skip
skip_first n mask t h = go (masked mask t) refl h
  where
    go : (b : Bool) → masked mask t ≡ b → masked mask (cond b (skip n mask (next t)) t) ≡ true
        → (masked mask t ≡ true) × (masked mask (skip n mask (next t)) ≡ true)
    go true e k = (e, k)
    go false e k = absurd (true≢false (sym k ∙ e))

skip_each : (n mask t : ℕ) → t < 16 → masked mask (skip n mask t) ≡ true
    → (j : ℕ) → j ≤ n → masked mask ((t + j) % 16) ≡ true
unfolding skip
skip_each zero mask t ht h j hj = subst (λ (k : ℕ). masked mask k ≡ true) (omega arith) h
skip_each (suc n) mask t ht h zero hj =
    subst (λ (k : ℕ). masked mask k ≡ true) (omega arith) (skip_first n mask t h).0
skip_each (suc n) mask t ht h (suc j) hj =
    subst (λ (k : ℕ). masked mask k ≡ true) (omega arith)
    (skip_each n mask (next t) (omega arith) (skip_first n mask t h).1 j (omega arith))

-- how far the next admitted tag is
abbrev pub to_go : ℕ → ℕ → ℕ
to_go mask t = (past mask t + 16 - t) % 16

module _ (mask : ℕ) (hm : mask < 65536) (nm : mask ≡ 65535 → ⊥) where
  -- 15 moves are enough
  skip_admitted : (t : ℕ) → t < 16 → masked mask (skip 15 mask t) ≡ false
  skip_admitted t ht = go (masked mask (skip 15 mask t)) refl
    where
      each : masked mask (skip 15 mask t) ≡ true → (i : ℕ) → i < 16 → masked mask i ≡ true
      each e i hi =
          subst (λ (k : ℕ). masked mask k ≡ true) (omega arith) (skip_each 15 mask t ht e ((i + 16 - t) % 16) (omega arith))

      go : (b : Bool) → masked mask (skip 15 mask t) ≡ b → masked mask (skip 15 mask t) ≡ false
      go true e = absurd (nm (omega (arith, ones 16 mask (each e))))
      go false e = e

  past_admitted : (t : ℕ) → t < 16 → masked mask (past mask t) ≡ false
  past_admitted t h = ap (masked mask) (skip_more 15 mask t (skip_admitted t h)) ∙ skip_admitted t h

  -- a masked tag is passed
  pub past_on : (t : ℕ) → t < 16 → masked mask t ≡ true
      → (to_go mask (next t) < to_go mask t) × (past mask t ≡ past mask (next t))
  past_on t h e =
      let same : past mask t ≡ past mask (next t) =
      skip_suc 15 mask t e ∙ sym (skip_more 15 mask (next t) (skip_admitted (next t) (omega arith))) in
      let moved : past mask t ≡ t → ⊥ = λ k. true≢false (sym e ∙ ap (masked mask) (sym k) ∙ past_admitted t h) in
      (omega (arith, skip_lt 16 mask t h), same)

  walk_admitted : (n t : ℕ) → t < 16 → masked mask (walk (suc n) mask t) ≡ false
  unfolding walk
  walk_admitted zero t h = past_admitted (next t) (omega arith)
  walk_admitted (suc n) t h = walk_admitted n (past mask (next t)) (skip_lt 16 mask (next t) (omega arith))

  -- the chosen tag is admitted
  pub chosen_admitted : (start offset : ℕ) → start < 16 → masked mask (chosen start offset mask) ≡ false
  chosen_admitted start zero h = ap (masked mask) (chosen_zero start 0 mask nm refl) ∙ past_admitted start h
  chosen_admitted start (suc n) h =
      ap (masked mask) (chosen_walk start (suc n) mask nm (omega arith)) ∙ walk_admitted n start h

-- ---- a turn of the code's walk, where v is what is to be chosen

-- it moves on by one, if there is one to go
pub turn_moves : (mask t n : ℕ) {t' n' v : ℕ} → t' ≡ next t → n' ≡ n - 1 → 0 < n → chosen t n mask ≡ v
    → (mask ≡ 65535 → ⊥) → walk n' mask (past mask t') ≡ v
turn_moves mask t n et en h e nm =
    ap₂ (λ (a b : ℕ). walk a mask (past mask b)) en et ∙ sym (walk_less n mask t h)
    ∙ sym (chosen_walk t n mask nm (omega arith)) ∙ e

pub turn_stays : (mask t n : ℕ) {t' n' v : ℕ} → t' ≡ t → n' ≡ n → n ≤ 0 → chosen t n mask ≡ v
    → (mask ≡ 65535 → ⊥) → walk n' mask (past mask t') ≡ v
turn_stays mask t n et en h e nm =
    ap₂ (λ (a b : ℕ). walk a mask (past mask b)) en et ∙ walk_zero n mask (past mask t) (omega arith)
    ∙ sym (chosen_zero t n mask nm (omega arith)) ∙ e

-- and ends at an admitted tag
pub turn_ends : (mask t n : ℕ) {v : ℕ} → t < 16 → masked mask t ≡ false
    → ((mask ≡ 65535 → ⊥) → walk n mask (past mask t) ≡ v) → (mask ≡ 65535 → ⊥) × (walk n mask t ≡ v)
turn_ends mask t n h e f =
    let nm = admits mask t h e in
    (nm, ap (walk n mask) (sym (skip_suc 15 mask t e)) ∙ f nm)
