-- A turn of each reading loop, on lists: what is left to read, one byte on. Assumes nothing.
use mathlib.Core.Path.{◌≡◌, refl, ap, ◌∙◌}
use mathlib.Core.Bool.{Bool, true, false, cond, ◌&&◌}
use mathlib.Core.List.{List, [], ◌∷◌}
use Prim.Native.Nat.{ℕ, suc, ◌+◌, ◌-◌, ◌*◌, ◌^◌, ◌≤◌, ◌<◌}
use native.Mathlib.Nat.{pow-suc, pow-le-pow_right}
use native.Mathlib.Numerals.{add-one}
use native.Mathlib.Omega.{arith}
use lib.ListN.{length, get_or, drop}
use lib.Seq.{drop-cons}
use lib.Dec.{eqb}
use borrow.Author.Tests.{eq-eqb, ne_eqb}
use Rattle.std.proofs.lemmas.Bool.Decides.{nat_tests}
use Rattle.text.specs.Hex.{digit_value, read_hex}
use Rattle.text.specs.Lines.{starts}
use Rattle.std.proofs.Common.{None, Some}
use Rattle.std.specs.List.{starts_with}

-- a digit is below 16
pub digit_small : (b d : ℕ) → digit_value b ≡ Some d → d < 16
unfolding digit_value
digit_small b d e = grind (arith, nat_tests)

left_one : (n i : ℕ) → i < n → n - i ≡ suc (n - (i + 1))
left_one n i h = omega arith

-- a digit more, and a byte that is no digit
module _ (s : List ℕ) (at n i v : ℕ) (h : i < n) (room : at + n ≤ length s) where
  pub read_turn : (d : ℕ) → digit_value (get_or s (at + i) 0) ≡ Some d
      → read_hex (n - i) v (drop (at + i) s) ≡ read_hex (n - (i + 1)) (v * 16 + d) (drop (at + (i + 1)) s)
  unfolding read_hex
  read_turn d e =
      let next : suc (at + i) ≡ at + (i + 1) = omega arith in
      rw (left_one n i h, ← next, drop-cons s (at + i) 0 (omega arith), e)

  pub read_wrong : digit_value (get_or s (at + i) 0) ≡ None → read_hex (n - i) v (drop (at + i) s) ≡ None
  unfolding read_hex
  read_wrong e = rw (left_one n i h, drop-cons s (at + i) 0 (omega arith), e)

pub pow_turn : (i v d : ℕ) → v < 16 ^ i → d < 16 → v * 16 + d < 16 ^ (i + 1)
pow_turn i v d h small = rw (add-one, pow-suc) (omega arith)

-- sixteen digits fit
pub pow_room : (n i v d : ℕ) → n ≤ 16 → i < n → v < 16 ^ i → d < 16 → v * 16 + d < 2 ^ 64
pow_room n i v d most h k small =
    let top : 16 ^ (i + 1) ≤ 16 ^ 16 = pow-le-pow_right {n = 16} (omega arith) {i = i + 1} {j = 16} (omega arith) in
    omega (arith, pow_turn i v d k small)

-- a byte of a key more, and a byte that is another
module _ (key s : List ℕ) (at i : ℕ) (h : i < length key) (room : at + length key ≤ length s) where
  pub starts_turn : get_or key i 0 ≡ get_or s (at + i) 0 → starts (drop i key) (drop (at + i) s) ≡ starts (drop (i + 1) key) (drop (at + (i + 1)) s)
  unfolding starts
  starts_turn e =
      let next : suc (at + i) ≡ at + (i + 1) = omega arith in
      rw (← next, add-one, drop-cons key i 0 h, drop-cons s (at + i) 0 (omega arith), eq-eqb _ _ e)

  pub starts_wrong : (get_or key i 0 ≡ get_or s (at + i) 0 → ⊥) → starts (drop i key) (drop (at + i) s) ≡ false
  unfolding starts
  starts_wrong e = rw (drop-cons key i 0 h, drop-cons s (at + i) 0 (omega arith), ne_eqb _ _ e)

-- the library's test is the definition's
and_as_cond : (t u : Bool) → cond t u false ≡ (t && u)
and_as_cond true u = refl
and_as_cond false u = refl

pub starts_same : (key l : List ℕ) → starts key l ≡ starts_with eqb l key
unfolding starts
starts_same [] l = refl
starts_same (k ∷ key) [] = refl
starts_same (k ∷ key) (b ∷ l) = ap (λ (t : Bool). cond (eqb k b) t false) (starts_same key l) ∙ and_as_cond (eqb k b) (starts_with eqb l key)
