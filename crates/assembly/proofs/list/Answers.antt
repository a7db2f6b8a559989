use Rattle.std.proofs.Common.{◌∙◌, ap, sym}
use Rattle.assembly.specs.Answers.{Outcome, answer_for}
use Rattle.assembly.proofs.Answers.{answer_refused, from_one, listed_bad, listed_good, listed_large}
use Rattle.assembly.proofs.list.Goals as goal

pub returns-then-input-gt-MOST-clause-out_after : goal.returns-then-input-gt-MOST-clause-out_after
returns-then-input-gt-MOST-clause-out_after c =
    answer_refused _ _ _ (listed_large _ c.if-input-gt-MOST.true)

pub overflow_sub-result : goal.overflow_sub-result
overflow_sub-result c = from_one _ _ c.in-Err.ensures.words_after

pub overflow_sub-bad : goal.overflow_sub-bad
overflow_sub-bad c = from_one _ _ c.in-Err.ensures.words_after

pub returns-in-Ok-clause-out_after : goal.returns-in-Ok-clause-out_after
returns-in-Ok-clause-out_after c =
    let a = c.args in
    let same = listed_good a.input.now c.if-input-gt-MOST.false c.parse.new.front c.parse.new.words _ c.parse.array_long c.in-Ok.ensures.counted.0 c.in-Ok.ensures.words_after in
    c.list_numbers.ensures.out_after ∙ ap (λ (o : Outcome). answer_for o a.out.now) (sym same)

pub returns-in-Err-clause-out_after : goal.returns-in-Err-clause-out_after
returns-in-Err-clause-out_after c =
    answer_refused _ _ _ (listed_bad _ c.if-input-gt-MOST.false _ _ c.in-Err.ensures.words_after c.behind_lines.ensures)
