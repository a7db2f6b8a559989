-- With i numbers read, the lines left decide what the text says.
use Rattle.std.proofs.Common.{◌≡◌, ◌+◌, ◌≤◌, length}
use Rattle.assembly.specs.SourceLines.{lines_of}
use Rattle.assembly.proofs.Reading.{Reached}
use Rattle.assembly.proofs.SourceLines.{total}
use Rattle.assembly.proofs.reader.read_numbers.Given as goal

abbrev pub invariant-loop-line : goal.invariant-loop-line
invariant-loop-line l =
    record {
      bytes : l.at + total (lines_of l.line-iterator.0.now) ≡ length l.s;
      lines : l.number + length (lines_of l.line-iterator.0.now) ≤ length l.s + 1;
      few : l.i ≤ 265;
      room : length l.numbers ≡ 265;
      reached : Reached (lines_of l.s) (lines_of l.line-iterator.0.now) l.number l.i l.at l.numbers;
    }
