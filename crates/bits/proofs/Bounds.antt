-- A bound of a number that is chosen by a test. Assumes nothing.
use Prim.Native.Nat.{ℕ, ◌<◌}
use mathlib.Core.Bool.{Bool, true, false, cond}

pub cond_lt : (b : Bool) {x y m : ℕ} → x < m → y < m → cond b x y < m
cond_lt true hx hy = hx
cond_lt false hx hy = hy
