use Rattle.std.proofs.Common.{◌≡◌, ◌*◌, ◌≤◌, length}
use Rattle.templates.proofs.PutLine.{Left}
use Rattle.templates.proofs.put_line.Given as goal

abbrev pub invariant-loop-l : goal.invariant-loop-l
invariant-loop-l l =
    record { room : length l.out ≡ 504; short : l.at ≤ 21 * l.l-index; left : Left l.initial.out l.l-items l.f l.out l.at l.l-index }
