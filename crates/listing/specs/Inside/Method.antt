-- How a text is read: by the form that it is taken for, whose line is then compared. No notion of document 02.
use Rattle.std.specs.Prelude.{ℕ, ◌%◌, cond, List, ltb, eqb, Option, Some, None, Result, Ok, Err}
use Rattle.isa.specs.Encoding.{encode_of}
use Rattle.isa.specs.declared.Mode.{Mode}
use Rattle.isa.specs.declared.Mode.TheVariants.{Post, Pre, Offset}
use Rattle.isa.specs.declared.AddSubOp.{AddSubOp}
use Rattle.isa.specs.declared.AddSubOp.TheVariants.{Addg, Subg}
use Rattle.isa.specs.declared.TwoSourceOp.{TwoSourceOp}
use Rattle.isa.specs.declared.TwoSourceOp.TheVariants.{Subp, Subps, Irg, Gmi}
use Rattle.isa.specs.declared.TagStoreOp.{TagStoreOp}
use Rattle.isa.specs.declared.TagStoreOp.TheVariants.{Stg, Stzg, St2g, Stz2g}
use Rattle.isa.specs.declared.Form.{Form}
use Rattle.isa.specs.declared.Form.TheVariants.{AddSub, TwoSource, Ldg, TagStore, Stgp}
use Rattle.templates.specs.Inside.Matching.{row_from}
use Rattle.templates.specs.Templates.{templates}
use Rattle.templates.specs.declared.Fields.{Fields}
use Rattle.templates.specs.declared.reader.Reading.{Reading}
use Rattle.listing.specs.Lines.{line_of}
use Rattle.listing.specs.Reading.{same_text}
use Rattle.listing.specs.declared.ReadError.{ReadError}
use Rattle.listing.specs.declared.ReadError.TheVariants.{BadLine}

-- the form of a row, with the fields that were read

abbrev pub add_sub_at : ℕ → AddSubOp
add_sub_at row = cond (eqb row 0) Addg Subg

abbrev pub two_source_at : ℕ → TwoSourceOp
two_source_at row = cond (eqb row 2) Subp (cond (eqb row 3) Subps (cond (eqb row 4) Irg Gmi))

abbrev pub tag_store_at : ℕ → TagStoreOp
tag_store_at row = cond (ltb row 12) Stg (cond (ltb row 16) Stzg (cond (ltb row 20) St2g Stz2g))

abbrev pub mode_at : ℕ → Mode
mode_at row = cond (eqb (row % 4) 0) Post (cond (eqb (row % 4) 1) Pre Offset)

unfoldable pub form_at : ℕ → Fields → Form
form_at row g =
    cond (ltb row 2) (AddSub (add_sub_at row) g.first g.second g.amount g.offset)
    (cond (ltb row 6) (TwoSource (two_source_at row) g.first g.second g.third)
    (cond (ltb row 8) (Ldg g.first g.second g.amount)
    (cond (ltb row 24) (TagStore (tag_store_at row) (mode_at row) g.first g.second g.amount)
    (Stgp (mode_at row) g.first g.second g.third g.amount))))

abbrev pub encoded_read : Option ℕ → Result ℕ ReadError
encoded_read (Some w) = Ok w
encoded_read None = Err BadLine

-- the word of a form, if its line is the text
unfoldable pub read_form : List ℕ → Form → Result ℕ ReadError
read_form s f = cond (same_text (line_of f) s) (encoded_read (encode_of f)) (Err BadLine)

abbrev pub read_row : List ℕ → Option Reading → Result ℕ ReadError
read_row s (Some read) = read_form s (form_at read.row read.fields)
read_row s None = Err BadLine

unfoldable pub read_by_method : List ℕ → Result ℕ ReadError
read_by_method s = read_row s (row_from templates s 0)
