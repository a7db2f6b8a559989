-- Assumes nothing.
use Rattle.std.proofs.Common.{◌≡◌, ◌&&◌, ltb, ◌∙◌, lt-ltb}
use Rattle.history.specs.Recording.{entry_for}
use Rattle.execution.proofs.memory_words.entry_for.Goals.{then-saves, else-saves, then-saves-2, else-saves-2}
use Rattle.execution.proofs.memory_words.entry_for.Goals as goal

pub returns : goal.returns
unfolding entry_for
returns c =
    let more : c.if-saves.old_word ≡ c.args.saves && ltb 1 c.args.granules =
    elim c.if-saves.branch [ then-saves w ↦ w.old_word-is ∙ rw (w.if-saves.true) | else-saves w ↦ w.old_word-is ∙ rw (w.if-saves.false) ] in
    let more-2 : c.if-saves-2.old_word ≡ c.args.saves && ltb 1 c.args.granules =
    elim c.if-saves-2.branch [ then-saves-2 w ↦ w.old_word-is ∙ rw (w.if-saves-2.true) | else-saves-2 w ↦ w.old_word-is ∙ rw (w.if-saves-2.false) ] in
    rw (
      lt-ltb 0 c.args.granules c.requires.le_granules,
      c.old_tag-second.ensures,
      c.old_word.ensures,
      c.old_word-2.ensures,
      c.old_word-3.ensures,
      c.old_word-4.ensures,
      c.x_or_sp.ensures,
      more,
      more-2,
    )
