-- `text::put_hex`: all digits put at entry are those left put on what stands now.
use Rattle.std.proofs.Common.{◌≡◌}
use Rattle.std.proofs.lemmas.List.Edits.{sets}
use Rattle.text.specs.Hex.{hex_digits}
use Rattle.text.proofs.put_hex.Given as goal

abbrev pub invariant-loop-i : goal.invariant-loop-i
invariant-loop-i l = sets l.initial.out l.at (hex_digits l.n l.v) ≡ sets l.out l.at (hex_digits l.i l.rest)
