-- A test of several fields taken apart. Assumes nothing.
use Prim.Native.Nat.{ℕ, ◌≤◌}
use mathlib.Core.Path.{◌≡◌}
use mathlib.Core.Bool.{Bool, true, ◌&&◌, and-eq-true_iff}
use lib.Dec.{leb}
use borrow.Author.Tests.{leb-true}
use Rattle.isa.specs.Encoding.{register}

-- two registers, and what is tested after them
pub two_registers : (a b : ℕ) (t : Bool) → (register a && register b && t) ≡ true → (a ≤ 31) × (b ≤ 31) × (t ≡ true)
two_registers a b t h =
    let l = ((and-eq-true_iff (register a && register b) t).0 h).0 in (
      leb-true a 31 ((and-eq-true_iff (register a) (register b)).0 l).0,
      leb-true b 31 ((and-eq-true_iff (register a) (register b)).0 l).1,
      ((and-eq-true_iff (register a && register b) t).0 h).1,
    )

-- two registers, one field more, and what is tested after them
pub three_fields : (a b c limit : ℕ) (t : Bool) → (register a && register b && leb c limit && t) ≡ true
    → (a ≤ 31) × (b ≤ 31) × (c ≤ limit) × (t ≡ true)
three_fields a b c limit t h =
    let l = two_registers a b (leb c limit) ((and-eq-true_iff (register a && register b && leb c limit) t).0 h).0 in
    (l.0, l.1, leb-true c limit l.2, ((and-eq-true_iff (register a && register b && leb c limit) t).0 h).1)
