-- The line of a form is one line, and begins with a letter. Assumes nothing.
use Prim.Native.Nat.{◌≤◌}
use mathlib.Core.Bool.{true}
use mathlib.Core.Path.{◌≡◌}
use lib.ListN.{get_or}
use Rattle.isa.specs.declared.Form.{Form}
use Rattle.text.proofs.OneLine.{one_line}
use Rattle.templates.proofs.OneLine.{row_letter, row_once}
use Rattle.listing.specs.Lines.{fields_of, line_of, row_of}
use Rattle.listing.proofs.Lengths.{row_small}

pub line_once : (f : Form) → one_line (line_of f) ≡ true
unfolding line_of
line_once f = row_once (row_of f) (fields_of f) (row_small f)

pub line_letter : (f : Form) → 97 ≤ get_or (line_of f) 0 0
unfolding line_of
line_letter f = row_letter (row_of f) (fields_of f) (row_small f)
