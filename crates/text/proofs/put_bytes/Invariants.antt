-- `text::put_bytes`: the whole run of stores is what is left of it on what stands now.
use Rattle.std.proofs.Common.{◌≡◌, ◌+◌, drop}
use Rattle.std.proofs.lemmas.List.Edits.{sets}
use Rattle.text.proofs.put_bytes.Given as goal

abbrev pub invariant-loop-i : goal.invariant-loop-i
invariant-loop-i l = sets l.initial.out l.at l.t ≡ sets l.out (l.at + l.i) (drop l.i l.t)
