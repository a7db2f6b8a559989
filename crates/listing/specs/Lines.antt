-- The line of each form (document 02, E1): its template, with its fields put in.
use Rattle.std.specs.Prelude.{ℕ, ◌+◌, cond, List, eqb}
use Rattle.isa.specs.declared.Mode.{Mode}
use Rattle.isa.specs.declared.Mode.TheVariants.{Post, Pre, Offset}
use Rattle.isa.specs.declared.AddSubOp.{AddSubOp}
use Rattle.isa.specs.declared.AddSubOp.TheVariants.{Addg, Subg}
use Rattle.isa.specs.declared.TwoSourceOp.{TwoSourceOp}
use Rattle.isa.specs.declared.TwoSourceOp.TheVariants.{Subp, Subps, Irg, Gmi}
use Rattle.isa.specs.declared.TagStoreOp.{TagStoreOp}
use Rattle.isa.specs.declared.TagStoreOp.TheVariants.{Stg, Stzg, St2g, Stz2g}
use Rattle.isa.specs.declared.Form.{Form}
use Rattle.isa.specs.declared.Form.TheVariants.{AddSub, TwoSource, Ldg, TagStore, Stgp}
use Rattle.templates.specs.declared.Fields.{Fields}
use Rattle.templates.specs.Templates.{template_at, filled}

-- rows of the templates

abbrev pub add_sub_row : AddSubOp → ℕ
add_sub_row Addg = 0
add_sub_row Subg = 1

abbrev pub two_source_row : TwoSourceOp → ℕ
two_source_row Subp = 2
two_source_row Subps = 3
two_source_row Irg = 4
two_source_row Gmi = 5

-- a zero amount is left out
abbrev pub shown_row : ℕ → ℕ
shown_row amount = cond (eqb amount 0) 0 1

abbrev pub tag_store_row : TagStoreOp → ℕ
tag_store_row Stg = 8
tag_store_row Stzg = 12
tag_store_row St2g = 16
tag_store_row Stz2g = 20

-- only the offset form leaves a zero amount out
abbrev pub mode_row : Mode → ℕ → ℕ
mode_row Post amount = 0
mode_row Pre amount = 1
mode_row Offset amount = 2 + shown_row amount

abbrev pub row_of : Form → ℕ
row_of (AddSub op d n amount offset) = add_sub_row op
row_of (TwoSource op d n m) = two_source_row op
row_of (Ldg t n amount) = 6 + shown_row amount
row_of (TagStore op mode t n amount) = tag_store_row op + mode_row mode amount
row_of (Stgp mode t t2 n amount) = 24 + mode_row mode amount

-- the registers as the line names them, the amount and the tag offset
abbrev pub fields : ℕ → ℕ → ℕ → ℕ → ℕ → Fields
fields first second third amount offset =
    record { first = first; second = second; third = third; amount = amount; offset = offset }

abbrev pub fields_of : Form → Fields
fields_of (AddSub op d n amount offset) = fields d n 0 amount offset
fields_of (TwoSource op d n m) = fields d n m 0 0
fields_of (Ldg t n amount) = fields t n 0 amount 0
fields_of (TagStore op mode t n amount) = fields t n 0 amount 0
fields_of (Stgp mode t t2 n amount) = fields t t2 n amount 0

-- the line of a form, with its line feed
unfoldable pub line_of : Form → List ℕ
line_of f = filled (template_at (row_of f)) (fields_of f)
