-- Lengths of what is written, and rows of the templates. Assumes nothing.
use mathlib.Core.Path.{◌≡◌, refl, ap, ◌∙◌}
use mathlib.Core.Bool.{Bool, true, false, cond}
use mathlib.Core.List.{List}
use Prim.Native.Nat.{ℕ, ◌+◌, ◌≤◌, ◌<◌}
use native.Mathlib.Omega.{arith}
use lib.Dec.{eqb}
use lib.ListN.{length, take, drop}
use lib.Seq.{sets, sets-eq, length-sets, take-append_seam}
use Rattle.std.proofs.Common.{Option, Some, None}
use Rattle.text.specs.Lines.{room_for}
use Rattle.isa.specs.Decoding.{decode_of}
use Rattle.isa.specs.declared.Mode.{Mode}
use Rattle.isa.specs.declared.Mode.TheVariants.{Post, Pre, Offset}
use Rattle.isa.specs.declared.AddSubOp.{AddSubOp}
use Rattle.isa.specs.declared.AddSubOp.TheVariants.{Addg, Subg}
use Rattle.isa.specs.declared.TwoSourceOp.{TwoSourceOp}
use Rattle.isa.specs.declared.TwoSourceOp.TheVariants.{Subp, Subps, Irg, Gmi}
use Rattle.isa.specs.declared.TagStoreOp.{TagStoreOp}
use Rattle.isa.specs.declared.TagStoreOp.TheVariants.{Stg, Stzg, St2g, Stz2g}
use Rattle.isa.specs.declared.Form.{Form}
use Rattle.isa.specs.declared.Form.TheVariants.{AddSub, TwoSource, Ldg, TagStore, Stgp}
use Rattle.templates.specs.Templates.{template_at, filled}
use Rattle.templates.specs.declared.Fields.{Fields}
use Rattle.templates.proofs.Rows.{line_short as row-short}
use Rattle.listing.specs.Codes.{UNDEFINED}
use Rattle.listing.specs.Writing.{Written, written, put_at, listed_at}
use Rattle.listing.specs.Lines.{add_sub_row, two_source_row, shown_row, tag_store_row, mode_row, row_of, fields_of, line_of}

-- a listed word leaves the buffer's length, and has no code above 10

by_test : (b : Bool) (x y : Written) (n : ℕ) → length x.bytes ≡ n → length y.bytes ≡ n → length (cond b x y).bytes ≡ n
by_test true x y n e f = e
by_test false x y n e f = f

length_put : (l : List ℕ) (at : ℕ) (t : List ℕ) → length (put_at l at t).bytes ≡ length l
unfolding put_at
length_put l at t = by_test (room_for l at t) _ _ (length l) (length-sets l at t) refl

by_decoded : (d : Option Form) (l : List ℕ) (at : ℕ)
    → length (elim d as (λ _. Written) [ Some f ↦ put_at l at (line_of f) | None ↦ written l at UNDEFINED ]).bytes ≡ length l
by_decoded (Some f) l at = length_put l at (line_of f)
by_decoded None l at = refl

pub length_listed : (l : List ℕ) (at word : ℕ) → length (listed_at l at word).bytes ≡ length l
unfolding listed_at
length_listed l at word = by_decoded (decode_of word) l at

small_by_test : (b : Bool) (x y : Written) → x.code ≤ 10 → y.code ≤ 10 → (cond b x y).code ≤ 10
small_by_test true x y h k = h
small_by_test false x y h k = k

small_put : (l : List ℕ) (at : ℕ) (t : List ℕ) → (put_at l at t).code ≤ 10
unfolding put_at
small_put l at t = small_by_test (room_for l at t) _ _ (omega arith) (omega arith)

small_decoded : (d : Option Form) (l : List ℕ) (at : ℕ)
    → (elim d as (λ _. Written) [ Some f ↦ put_at l at (line_of f) | None ↦ written l at UNDEFINED ]).code ≤ 10
small_decoded (Some f) l at = small_put l at (line_of f)
small_decoded None l at = omega arith

pub code_small : (l : List ℕ) (at word : ℕ) → (listed_at l at word).code ≤ 10
unfolding listed_at
code_small l at word = small_decoded (decode_of word) l at

-- a text that was put at the start is there
pub take_put : (l t : List ℕ) → length t ≤ length l → take (length t) (sets l 0 t) ≡ t
take_put l t h = ap (take (length t)) (sets-eq t l 0 (omega (arith, h))) ∙ take-append_seam t (drop (0 + length t) l)

-- every form has a row

one : (b : Bool) → cond b 0 1 ≤ 1
one true = omega arith
one false = omega arith

pub shown_small : (a : ℕ) → shown_row a ≤ 1
shown_small a = one (eqb a 0)

pub mode_small : (m : Mode) (a : ℕ) → mode_row m a ≤ 3
mode_small Post a = omega arith
mode_small Pre a = omega arith
mode_small Offset a = omega (arith, shown_small a)

pub store_small : (op : TagStoreOp) → tag_store_row op ≤ 20
store_small Stg = omega arith
store_small Stzg = omega arith
store_small St2g = omega arith
store_small Stz2g = omega arith

add_sub_small : (op : AddSubOp) → add_sub_row op < 28
add_sub_small Addg = omega arith
add_sub_small Subg = omega arith

two_source_small : (op : TwoSourceOp) → two_source_row op < 28
two_source_small Subp = omega arith
two_source_small Subps = omega arith
two_source_small Irg = omega arith
two_source_small Gmi = omega arith

pub row_small : (f : Form) → row_of f < 28
row_small (AddSub op d n amount offset) = add_sub_small op
row_small (TwoSource op d n m) = two_source_small op
row_small (Ldg t n amount) = omega (arith, shown_small amount)
row_small (TagStore op mode t n amount) = omega (arith, store_small op, mode_small mode amount)
row_small (Stgp mode t t2 n amount) = omega (arith, mode_small mode amount)

-- no line is longer than 100 bytes
pub line_short : (f : Form) → length (line_of f) ≤ 100
unfolding line_of
line_short f = row-short (row_of f) (fields_of f) (row_small f)

-- a form's line by its row and its fields
pub line_of_lem : (f : Form) (row : ℕ) (g : Fields) → row ≡ row_of f → g ≡ fields_of f → filled (template_at row) g ≡ line_of f
unfolding line_of
line_of_lem f row g e k = rw (e, k)

-- and as it stands in a buffer
pub line_taken : (zs l : List ℕ) (n : ℕ) (f : Form) → n ≡ length (line_of f) → l ≡ sets zs 0 (line_of f) → n ≤ length zs → take n l ≡ line_of f
line_taken zs l n f e k h = ap (λ (m : ℕ). take m l) e ∙ ap (take (length (line_of f))) k ∙ take_put zs (line_of f) (omega (arith, h, e))
