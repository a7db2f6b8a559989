-- Assumes nothing.
use Rattle.std.proofs.Common.{arith, sym, ◌∙◌}
use Rattle.machine.specs.declared.Code.TheVariants.{Done}
use Rattle.history.specs.Inside.Slots.{history_of}
use Rattle.execution.specs.Calls.{returned}
use Rattle.execution.proofs.Taking.{bytes_len}
use Rattle.stepping.proofs.StepsBack.{back_none, back_cursor, slot_inside, slot_undone, undone_by}
use Rattle.stepping.proofs.undoing.back.Goals as goal

pub returns-then-cursor-eq0-clause-undone : goal.returns-then-cursor-eq0-clause-undone
returns-then-cursor-eq0-clause-undone c = rw (back_none _ c.requires c.if-cursor-eq0.true)

pub retreat-before-requires-clause-next_lt_slots : goal.retreat-before-requires-clause-next_lt_slots
retreat-before-requires-clause-next_lt_slots c =
    rw c.as_chunks.ensures.front_len (back_cursor _ c.requires c.if-cursor-eq0.false).0

pub bounds-slots-before : goal.bounds-slots-before
bounds-slots-before c =
    slot_inside _ c.requires c.if-cursor-eq0.false _ _ c.as_chunks.ensures.front c.as_chunks.ensures.front_len c.retreat-before.ensures

pub offset_bounds-slots-before : goal.offset_bounds-slots-before
offset_bounds-slots-before c =
    omega (arith, slot_inside _ c.requires c.if-cursor-eq0.false _ _ c.as_chunks.ensures.front c.as_chunks.ensures.front_len c.retreat-before.ensures)

pub returns-then-is_malformed-clause-undone : goal.returns-then-is_malformed-clause-undone
unfolding undone_by
returns-then-is_malformed-clause-undone c =
    let e = slot_undone _ c.requires c.if-cursor-eq0.false _ _ c.as_chunks.ensures.front c.as_chunks.ensures.front_len c.retreat-before.ensures in
    rw (e, sym c.is_malformed.ensures ∙ c.if-is_malformed.true)

pub restore-requires-clause-bytes_len : goal.restore-requires-clause-bytes_len
restore-requires-clause-bytes_len c = bytes_len _ c.requires

pub returns-clause-undone : goal.returns-clause-undone
unfolding undone_by
returns-clause-undone c =
    let e = slot_undone _ c.requires c.if-cursor-eq0.false _ _ c.as_chunks.ensures.front c.as_chunks.ensures.front_len c.retreat-before.ensures in
    rw (e, sym c.is_malformed.ensures ∙ c.if-is_malformed.false)
    (λ i. returned Done 0 (record { state = c.restore.ensures.state i; history = history_of c.args.history.now c.retreat-before.result }))
