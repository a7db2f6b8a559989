-- `session_lines::parse` meets its contract. Assumes nothing.
use Rattle.std.proofs.Common.{arith, ◌<◌, ◌++◌, ◌≡◌, sym, ◌∙◌, true, ◌&&◌, leb, length, length-append}
use Rattle.std.proofs.Common.{ℕ, List, ◌+◌, ap, Result, Ok, Err}
use Rattle.std.specs.Result.{IsErrAnd}
use Rattle.session_lines.specs.declared.BadLine.{BadLine}
use Rattle.session_lines.specs.Inside.Buffers.{parsed_by}
use Rattle.std.proofs.Math.ListN.{length-set}
use Rattle.text.proofs.Framing.{line_says}
use Rattle.session_lines.specs.Parsing.{bad, ended}
use Rattle.session_lines.proofs.Parsing.{nine_on, reached_all, reached_next, reached_wrong, reached_end, reached_extra}
use Rattle.session_lines.proofs.parse.Goals as goal

pub returns-then-ends : goal.returns-then-ends
returns-then-ends c =
    let e : leb 9 c.loop-i.i && ended c.args.s.now c.loop-i.at ≡ true = sym c.ends.ensures ∙ c.if-ends.true in
    record { counted = (nine_on _ _ e, omega arith); words_after = reached_all c.args.s.now c.loop-i.at c.loop-i.i _ (omega arith) c.loop-i.invariant e }

-- a refusal that is passed on says what it said
passed_on : (r : Result ℕ BadLine) (line : BadLine) (v : List ℕ) → IsErrAnd r (λ (x : BadLine). x ≡ line) → parsed_by r v ≡ bad line.number
passed_on (Err x) line v e = ap (λ (l : BadLine). bad l.number) e
passed_on (Ok n) line v e = absurd e

pub returns-in_err-line-clause-words_after : goal.returns-in_err-line-clause-words_after
returns-in_err-line-clause-words_after c =
    let line = c.in_err-line.field-0.0 in
    let wrong = sym c.nth_line.ensures ∙ c.in_err-line.ensures.ok_part in
    let told = rw c.in_err-line.ensures.ok_part at c.in_err-line.ensures.value in
    let same : line ≡ record { number = c.loop-i.i + 1 } = cc in
    passed_on c.from_residual.result line _ c.from_residual.ensures.1
    ∙ ap (λ (l : BadLine). bad l.number) same
    ∙ reached_wrong c.args.s.now c.loop-i.at c.loop-i.i _ (omega arith) c.loop-i.invariant (sym c.ends.ensures ∙ c.if-ends.false) wrong

pub keep-requires-clause-value_bound : goal.keep-requires-clause-value_bound
keep-requires-clause-value_bound c =
    let is = sym c.nth_line.ensures ∙ c.in_ok-line.ensures.ok_part in
    (line_says _ _ _ c.args.s.now c.loop-i.at _ _ is).0

pub loop-i-preserved : goal.loop-i-preserved
loop-i-preserved c =
    let l = c.loop-i in
    let is = sym c.nth_line.ensures ∙ c.in_ok-line.ensures.ok_part in
    let sizes = simp (length-append, length-set) at (ap length c.keep.ensures) in
    let long : l.i < length (l.front ++ l.words) = simp length-append (omega arith) in
    reached_next c.args.s.now l.at l.i _ (omega arith) l.invariant (sym c.ends.ensures ∙ c.if-ends.false) _ _ _ is long c.keep.ensures

pub returns-then-s-at-clause-words_after : goal.returns-then-s-at-clause-words_after
returns-then-s-at-clause-words_after c =
    let all : c.loop-i.i ≡ 265 = omega arith in
    reached_end c.args.s.now c.loop-i.at (c.loop-i.front ++ c.loop-i.words) (rw all at c.loop-i.invariant) c.if-s-at.true

pub returns-else-s-at-clause-words_after : goal.returns-else-s-at-clause-words_after
returns-else-s-at-clause-words_after c =
    let all : c.loop-i.i ≡ 265 = omega arith in
    reached_extra c.args.s.now c.loop-i.at (c.loop-i.front ++ c.loop-i.words) (rw all at c.loop-i.invariant) c.if-s-at.false
