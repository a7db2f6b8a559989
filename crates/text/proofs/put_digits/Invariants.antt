-- `text::put_digits`: the whole run of stores is what is left of it on what stands now.
use Rattle.std.proofs.Common.{◌≡◌, ◌+◌, drop}
use Rattle.std.proofs.lemmas.List.Edits.{sets}
use Rattle.text.specs.Hex.{digits_text}
use Rattle.text.proofs.put_digits.Given as goal

abbrev pub invariant-loop-i : goal.invariant-loop-i
invariant-loop-i l = sets l.initial.out l.at (digits_text l.t) ≡ sets l.out (l.at + l.i) (digits_text (drop l.i l.t))
