use Rattle.std.proofs.Common.{◌≡◌, ◌+◌, ◌≤◌, length, length-set, arith, ap, sym}
use Rattle.assembly.specs.SourceLines.{lines_of}
use Rattle.assembly.specs.declared.lines.Lines.{Lines}
use Rattle.assembly.proofs.Contents.{number_expected}
use Rattle.assembly.proofs.Reading.{Reached, reached_end, reached_missing, reached_number, reached_passed, reached_start, reached_unexpected}
use Rattle.assembly.proofs.SourceLines.{count_short, total, total_all}
use Rattle.assembly.proofs.reader.read_numbers.Goals as goal
use Rattle.assembly.proofs.reader.read_numbers.Goals.{in-Passed, in-Number}

pub loop-line-init : goal.loop-line-init
loop-line-init c =
    let e = ap (λ (l : Lines). lines_of l.0.now) c.into_iter-line-iterator.ensures.into_iter_gives in
    record {
      bytes = omega (arith, total_all c.args.s.now, ap total e);
      lines = omega (arith, count_short c.args.s.now, ap length e);
      few = omega arith;
      room = c.told-numbers;
      reached = reached_start _ _ c.args.numbers.now e;
    }

pub bounds-numbers-i : goal.bounds-numbers-i
bounds-numbers-i c =
    number_expected c.loop-line.i _ _ (sym c.in-Number.ensures)

pub returns-in-Unexpected-clause-numbers_after : goal.returns-in-Unexpected-clause-numbers_after
returns-in-Unexpected-clause-numbers_after c =
    reached_unexpected _ _ _ _ _ _ c.loop-line.invariant.reached _ _ c.in-Some.ensures.steps (sym c.in-Unexpected.ensures)

pub loop-line-preserved : goal.loop-line-preserved
loop-line-preserved c =
    let l = c.loop-line in
    let n = c.match-content_of in
    let line = c.in-Some.line.now in
    let rest = lines_of c.next.new.self.0.now in
    let cut = c.in-Some.ensures.steps in
    let read : (n.i ≤ 265) × (length n.numbers ≡ 265) × Reached (lines_of c.args.s.now) rest (l.number + 1) n.i (l.at + length line) n.numbers =
    elim n.branch [
      | in-Passed w ↦ rw (w.i-is, w.numbers-is)
          (l.invariant.few, l.invariant.room, reached_passed _ _ _ _ _ _ l.invariant.reached _ _ cut (sym w.in-Passed.ensures))
      | in-Number w ↦
          let q = sym w.in-Number.ensures in
          let small = number_expected l.i _ _ q in
          rw (w.i-is, w.numbers-is)
          (omega arith, simp length-set l.invariant.room, reached_number _ _ _ _ _ _ l.invariant.reached _ _ cut _ q (omega (arith, l.invariant.room)))
    ] in
    record {
      bytes = omega (arith, l.invariant.bytes, ap total cut);
      lines = omega (arith, l.invariant.lines, ap length cut);
      few = read.0;
      room = read.1;
      reached = read.2;
    }

pub returns-then-i-lt9-clause-numbers_after : goal.returns-then-i-lt9-clause-numbers_after
returns-then-i-lt9-clause-numbers_after c =
    reached_missing _ _ _ _ _ _ c.loop-line.invariant.reached c.in-None.ensures.steps.0 c.if-i-lt9.true

pub returns-clause-numbers_after : goal.returns-clause-numbers_after
returns-clause-numbers_after c =
    reached_end _ _ _ _ _ _ c.loop-line.invariant.reached c.in-None.ensures.steps.0 c.if-i-lt9.false
