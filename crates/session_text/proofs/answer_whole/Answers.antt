-- `session_text::answer_whole` meets its contract: what is put is the text of the run, or of the wrong line. Assumes nothing.
use Rattle.std.proofs.Common.{sym, ap, ◌∙◌, arith, length}
use lib.Seq.{sets}
use Rattle.session_text.proofs.Answers.{answer_bad, answer_good, fits}
use Rattle.session_text.proofs.Printed.{bad_long}
use Rattle.session_text.proofs.answer_whole.Goals as goal

pub of-requires : goal.of-requires
of-requires c = fits c.args.input.now _ _ _ c.parse.array_long c.in-Ok.ensures.counted.0 c.in-Ok.ensures.words_after

pub run-requires : goal.run-requires
run-requires c =
    let small = fits c.args.input.now _ _ _ c.parse.array_long c.in-Ok.ensures.counted.0 c.in-Ok.ensures.words_after in
    rw c.of.ensures small.granules

pub returns-in-Ok : goal.returns-in-Ok
returns-in-Ok c =
    let a = c.args in
    let run = rw c.of.ensures at c.run.ensures in
    let same = sym (answer_good a.input.now c.parse.new.front c.parse.new.words _ c.parse.array_long c.in-Ok.ensures.counted.0 c.in-Ok.ensures.words_after) in
    record { count = run.count ∙ ap length same; most = run.most; put = run.put ∙ ap (sets a.out.now 0) same }

pub returns-in-Err : goal.returns-in-Err
returns-in-Err c =
    let a = c.args in
    let same = sym (answer_bad a.input.now _ c.in-Err.ensures.words_after) in
    record {
      count = c.put_bad.ensures.value ∙ sym (bad_long _) ∙ ap length same;
      most = omega (arith, c.put_bad.ensures.value);
      put = c.put_bad.ensures.out_after ∙ ap (sets a.out.now 0) same;
    }
