-- `session_lines::put_lines`: all lines put at entry are those left put on what stands now.
use Rattle.std.proofs.Common.{◌+◌, ◌≡◌, length, drop}
use Rattle.std.proofs.lemmas.List.Edits.{sets}
use Rattle.session_lines.specs.LineFormats.{lines_from}
use Rattle.session_lines.proofs.put_lines.Given as goal

abbrev pub invariant-loop-i : goal.invariant-loop-i
invariant-loop-i l = record {
  left : length (lines_from 0 l.v) ≡ l.at + length (lines_from l.i (drop l.i l.v));
  put : sets l.initial.out 0 (lines_from 0 l.v) ≡ sets l.out l.at (lines_from l.i (drop l.i l.v));
}
