-- `tag::choose` meets its contract. The outer invariant: from the tag reached, with what is left, the same tag is chosen. The inner: unless all
-- tags are masked, the walk that is left from the next admitted tag gives it. The measures: what is left, and how far that tag is.
-- Assumes nothing.
use mathlib.Core.Path.{◌≡◌}
use Rattle.tag.specs.TagChoice.{past, walk, chosen}
use Rattle.tag.proofs.TagChoice.{to_go}
use Rattle.tag.proofs.choose.Given as goal

abbrev pub invariant-loop-tag : goal.invariant-loop-tag
invariant-loop-tag l =
    (l.mask ≡ 65535 → ⊥) → walk l.left l.mask (past l.mask l.tag.value) ≡ chosen l.fn.start.value l.offset l.mask

abbrev pub decreases-loop-tag : goal.decreases-loop-tag
decreases-loop-tag l = to_go l.mask l.tag.value

abbrev pub invariant-walk : goal.invariant-walk
invariant-walk l = chosen l.tag.value l.left l.mask ≡ chosen l.fn.start.value l.offset l.mask

abbrev pub decreases-walk : goal.decreases-walk
decreases-walk l = l.left
