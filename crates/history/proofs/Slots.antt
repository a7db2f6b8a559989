-- Laws of the ring. Assumes nothing.
use Prim.Native.Nat.{ℕ, ◌*◌, ◌<◌}
use mathlib.Core.Bool.{Bool, true, false, cond}
use mathlib.Core.List.{List}
use mathlib.Core.Path.{◌≡◌, refl}
use native.Mathlib.Omega.{arith}
use lib.Dec.{eqb}
use lib.Seq.{sets}
use borrow.Author.Tests.{eqb-true, eqb-false}
use Rattle.history.specs.Ring.{History, capacity, advanced, pushed}

-- what holds of the history as it was, with no slots, and with the record written, holds of it with the record put in
pub pushed_either : (P : History → Type 0) (r : List ℕ) (h : History) → (capacity h ≡ 0 → P h)
    → (0 < capacity h → P (record { words = sets h.words (8 * h.cursor.next) r; cursor = advanced (capacity h) h.cursor }))
    → P (pushed r h)
unfolding pushed
pushed_either P r h none some = go (eqb (capacity h) 0) refl
  where
    go : (t : Bool) → eqb (capacity h) 0 ≡ t
        → P (cond t h (record { words = sets h.words (8 * h.cursor.next) r; cursor = advanced (capacity h) h.cursor }))
    go true e = none (eqb-true (capacity h) 0 e)
    go false e = some (omega (arith, eqb-false (capacity h) 0 e))
