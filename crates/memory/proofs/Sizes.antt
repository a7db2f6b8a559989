-- What the rule on sizes and base tells. Assumes nothing.
use Rattle.std.proofs.Common.{◌≡◌, refl, sym, ℕ, ◌+◌, ◌-◌, ◌*◌, ◌%◌, ◌^◌, ◌≤◌, Bool, true, false, ◌&&◌, eqb, leb, eqb-true, leb-true, leb-false, le-leb, arith}
use borrow.Author.Tests.{lt-leb}
use mathlib.Core.Bool.{and-eq-true_iff}
use Rattle.memory.specs.Sizes.{sizes_ok}

pub record Sized (base bytes g : ℕ) : Type 0 where
  pub few : g ≤ 65536
  pub sixteen : bytes ≡ 16 * g
  pub aligned : base % 16 ≡ 0
  pub below : base + 16 * g ≤ 2 ^ 56

pub sized : (base bytes g : ℕ) → sizes_ok base bytes g ≡ true → Sized base bytes g
unfolding sizes_ok
sized base bytes g h =
    let few = leb g 65536 in
    let sixteen = eqb bytes (16 * g) in
    let aligned = eqb (base % 16) 0 in
    let fourth = (and-eq-true_iff (few && sixteen && aligned) (leb (base + 16 * g) (2 ^ 56))).0 h in
    let third = (and-eq-true_iff (few && sixteen) aligned).0 fourth.0 in
    let second = (and-eq-true_iff few sixteen).0 third.0 in
    record {
      few = leb-true g 65536 second.0;
      sixteen = eqb-true bytes (16 * g) second.1;
      aligned = eqb-true (base % 16) 0 third.1;
      below = leb-true (base + 16 * g) (2 ^ 56) fourth.1;
    }

-- the last test of the rule, without a sum that could wrap
pub sum_below : (base g : ℕ) → g ≤ 65536 → leb base (2 ^ 56 - 16 * g) ≡ leb (base + 16 * g) (2 ^ 56)
sum_below base g few = go (leb base (2 ^ 56 - 16 * g)) refl
  where
    go : (t : Bool) → leb base (2 ^ 56 - 16 * g) ≡ t → t ≡ leb (base + 16 * g) (2 ^ 56)
    go true e = sym (le-leb (base + 16 * g) (2 ^ 56) (omega (arith, leb-true base (2 ^ 56 - 16 * g) e)))
    go false e = sym (lt-leb (base + 16 * g) (2 ^ 56) (omega (arith, leb-false base (2 ^ 56 - 16 * g) e)))
