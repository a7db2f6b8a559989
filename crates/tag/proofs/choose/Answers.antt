-- `tag::choose` meets its contract. Assumes nothing.
use Rattle.std.proofs.Common.{◌∙◌, arith, ap, sym}
use Rattle.tag.proofs.TagChoice.{past_on, chosen_none, chosen_walk, walk_zero, turn_moves, turn_stays, turn_ends}
use Rattle.tag.proofs.choose.Goals as goal
use Rattle.tag.proofs.choose.Goals.{then-left-gt0, else-left-gt0, then-loop-tag-test+then-all_masked, else-loop-tag-test+then-left-eq0}

pub loop-tag-init : goal.loop-tag-init
loop-tag-init c =
    elim c.if-left-gt0.branch [
      | then-left-gt0 w ↦ turn_moves _ _ _ (ap (λ t. t.value) w.tag-is ∙ w.next-tag.ensures) w.left-is w.if-left-gt0.true c.walk.invariant
      | else-left-gt0 w ↦ turn_stays _ _ _ (ap (λ t. t.value) w.tag-is) w.left-is w.if-left-gt0.false c.walk.invariant
    ]

-- a masked tag is passed
pub loop-tag-smaller : goal.loop-tag-smaller
loop-tag-smaller c =
    rw c.next-tag-in-loop-tag.ensures
    (past_on _ (omega arith) c.if-all_masked.false _ c.loop-tag.tag.four_bits (sym c.is_masked.ensures ∙ c.loop-tag-test.true)).0

pub loop-tag-preserved : goal.loop-tag-preserved
loop-tag-preserved c =
    let passed = past_on c.args.mask (omega arith) c.if-all_masked.false c.loop-tag.tag.value c.loop-tag.tag.four_bits (sym c.is_masked.ensures ∙ c.loop-tag-test.true) in
    λ nm. rw (c.next-tag-in-loop-tag.ensures, ← passed.1) (c.loop-tag.invariant nm)

-- the inner loop ends at an admitted tag
pub walk-preserved : goal.walk-preserved
walk-preserved c =
    let e = turn_ends _ _ _ c.loop-tag.tag.four_bits (sym c.is_masked.ensures ∙ c.loop-tag-test.false) c.loop-tag.invariant in
    chosen_walk _ _ _ e.0 c.if-left-eq0.false ∙ e.1

pub returns : goal.returns
returns c =
    elim c.loop-tag-test.branch [
      | then-loop-tag-test+then-all_masked w ↦ ap (λ t. t.0) w.result-is ∙ sym (chosen_none _ _ _ w.if-all_masked.true)
      | else-loop-tag-test+then-left-eq0 w ↦
          let e = turn_ends _ _ _ c.loop-tag.tag.four_bits (sym c.is_masked.ensures ∙ w.loop-tag-test.false) c.loop-tag.invariant in
          ap (λ t. t.0) w.result-is ∙ sym (walk_zero _ _ _ w.if-left-eq0.true) ∙ e.1
    ]
