-- `checksum::with_numbers`: the whole sum is what is left of it on the sum so far.
use Rattle.std.proofs.Common.{◌≡◌, ℕ, drop, map}
use Rattle.checksum.specs.Checksum.{IsNumberOf, with_numbers}
use Rattle.checksum.proofs.with_numbers.Given as goal

abbrev pub invariant-loop-item : goal.invariant-loop-item
invariant-loop-item g l =
    (number : _ → ℕ) → IsNumberOf g.T.Into.converts number → with_numbers l.sum (map number l.items) ≡ with_numbers l.s (drop l.item-index (map number l.items))
