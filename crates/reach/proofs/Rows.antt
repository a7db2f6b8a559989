-- Laws of the granules in a row that carry a tag: the row from granule i on is no longer than the list, each of its granules carries
-- the tag, and the next, if there is one, does not. Assumes nothing.
use Rattle.std.proofs.Common.{ℕ, ◌+◌, ◌≤◌, ◌<◌, Bool, List, ◌≡◌, eqb, eqb-true, length, drop, get_or, length-drop, get_or-drop, arith}
use Rattle.std.proofs.lemmas.Bool.{eqb-false}
use Rattle.std.proofs.lemmas.List.Sums.{prefix_len-le-length, prefix_len_passes, prefix_len_stops}
use Rattle.memory.specs.TagBytes.{tag_in}
use Rattle.reach.specs.ReachablePart.{in_row}

abbrev carries : ℕ → ℕ → Bool
carries tag byte = eqb (tag_in byte) tag

module _ (tag : ℕ) (tags : List ℕ) (i : ℕ) where
  pub end_le : i ≤ length tags → i + in_row tag (drop i tags) ≤ length tags
  unfolding in_row
  end_le h = omega (arith, prefix_len-le-length (carries tag) (drop i tags), length-drop i tags)

  pub carries_from : (k : ℕ) → k < in_row tag (drop i tags) → tag_in (get_or tags (i + k) 0) ≡ tag
  unfolding in_row
  carries_from k h = rw get_or-drop at (eqb-true _ tag (prefix_len_passes (carries tag) (drop i tags) k 0 h))

  pub stops_from : i + in_row tag (drop i tags) < length tags → tag_in (get_or tags (i + in_row tag (drop i tags)) 0) ≡ tag → ⊥
  unfolding in_row
  stops_from h = rw get_or-drop at (eqb-false _ tag (prefix_len_stops (carries tag) (drop i tags) 0 (omega (arith, length-drop i tags))))
