use Rattle.std.proofs.Common.{ℕ, List, ◌≡◌, ◌≤◌, ◌∙◌, ap, sym, arith, length, take}
use Rattle.std.proofs.lemmas.Result.{err_from_is_err_and}
use lib.Seq.{length-take-le}
use Rattle.session_lines.specs.LineFormats.{lines_from}
use Rattle.session_lines.proofs.Lengths.{session_room}
use Rattle.assembly.specs.Assembling.{session_of}
use Rattle.assembly.proofs.Answers.{answer_refused, answer_text_lem, assembled_large, assembled_small, lendable}
use Rattle.assembly.proofs.assemble.Goals as goal

pub returns-then-input-gt-MOST-clause-out_after : goal.returns-then-input-gt-MOST-clause-out_after
returns-then-input-gt-MOST-clause-out_after c =
    answer_refused _ _ _ (ap session_of (assembled_large _ c.if-input-gt-MOST.true))

pub returns-in_err-n-clause-out_after : goal.returns-in_err-n-clause-out_after
returns-in_err-n-clause-out_after c =
    let p = err_from_is_err_and c.from_residual.result c.from_residual.ensures.1 in
    rw (p.1, p.2) (answer_refused _ _ _ (ap session_of (assembled_small _ c.if-input-gt-MOST.false ∙ sym c.in_err-n.ensures.numbers_after)))

-- the lines of numbers that fit their buffer fit the text
room : (n : ℕ) (numbers : List ℕ) → n ≤ 265 → length numbers ≡ 265 → length (lines_from 0 (take n numbers)) ≤ 3732
room n numbers few all = session_room (take n numbers) (omega (arith, length-take-le n numbers (omega arith)))

pub put_lines-requires : goal.put_lines-requires
put_lines-requires c =
    omega (arith, room c.in_ok-n.n c.read_numbers.new.numbers c.in_ok-n.ensures.few c.read_numbers.array_long)

pub returns-clause-lendable_text : goal.returns-clause-lendable_text
returns-clause-lendable_text c =
    lendable _ _ (omega (arith, room c.in_ok-n.n c.read_numbers.new.numbers c.in_ok-n.ensures.few c.read_numbers.array_long, c.put_lines.ensures.value, c.put_lines.auto.out))

pub returns-clause-out_after : goal.returns-clause-out_after
returns-clause-out_after c =
    let o = ap session_of (assembled_small _ c.if-input-gt-MOST.false ∙ sym c.in_ok-n.ensures.numbers_after) in
    answer_text_lem _ _ _ _ _ o c.put_lines.ensures.value c.put_lines.ensures.out_after
