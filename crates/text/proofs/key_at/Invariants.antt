-- `text::key_at`: the text begins with the key where its rest begins with the rest of the key.
use Rattle.std.proofs.Common.{◌≡◌, ◌+◌, drop}
use Rattle.text.specs.Lines.{starts}
use Rattle.text.proofs.key_at.Given as goal

abbrev pub invariant-loop-i : goal.invariant-loop-i
invariant-loop-i l = starts l.key (drop l.at l.s) ≡ starts (drop l.i l.key) (drop (l.at + l.i) l.s)
