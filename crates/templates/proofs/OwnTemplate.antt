-- A line is read by its own template, and by none before it (for the reader's method). Assumes nothing.
use Rattle.std.proofs.Common.{Some, None}
use mathlib.Core.Path.{◌≡◌, refl, ap, sym, ◌∙◌, subst}
use mathlib.Core.Bool.{Bool, true, false, cond}
use mathlib.Core.List.{List, [], ◌∷◌, ◌++◌}
use Prim.Native.Nat.{ℕ, zero, suc, ◌+◌, ◌<◌}
use native.Mathlib.Nat.{add-zero, add-suc, suc-add, zero-add, le_of_suc-le-suc, not-suc-le-zero}
use native.Mathlib.Omega.{arith}
use borrow.Author.Tests.{eqb-true, eq-eqb}
use lib.Dec.{eqb}
use lib.ListN.{length, get_or, drop}
use Rattle.templates.specs.Templates.{templates, template_at, piece_of, text_as, filled}
use Rattle.templates.specs.Inside.Matching.{no_fields, reading, row_from, taken, ends, apart, diverge, diverges_from, distinct}
use Rattle.templates.specs.Inside.Reading.{Got, got, is_digit, read_as, set_as, field_as, is_literal, read_by}
use Rattle.templates.specs.declared.Fields.{Fields}
use Rattle.templates.proofs.FirstRows.{reads_first, reads_later, rows_many}
use Rattle.templates.proofs.Reading.{Fit, field_read, literal_text, literal_set}
use Rattle.templates.proofs.Rows.{true_not, both}

-- the definitions, a byte of the template at a time

abbrev Literally : ℕ → Bool
Literally l = is_literal (piece_of l)

filled_cons : (l : ℕ) (t : List ℕ) (f : Fields) → filled (l ∷ t) f ≡ text_as (piece_of l) l f ++ filled t f
unfolding filled
filled_cons l t f = refl

filled_literal : (l : ℕ) (t : List ℕ) (f : Fields) → Literally l ≡ true → filled (l ∷ t) f ≡ l ∷ filled t f
filled_literal l t f e = filled_cons l t f ∙ ap (λ (k : List ℕ). k ++ filled t f) (literal_text (piece_of l) l f e)

read_cons : (l : ℕ) (a s : List ℕ) (g : Fields)
    → read_by (l ∷ a) s g
    ≡ cond (Literally l) (cond (eqb l (get_or s 0 0)) (read_by a (drop 1 s) g) None)
    (read_by a (read_as (piece_of l) s).rest (set_as (piece_of l) l (read_as (piece_of l) s).value g))
unfolding read_by
read_cons l a s g = refl

ends_nil : ends [] ≡ false
unfolding ends
ends_nil = refl

ends_cons : (l : ℕ) (t : List ℕ) → ends (l ∷ t) ≡ true → (Literally l ≡ true) × (is_digit l ≡ false)
unfolding ends
ends_cons l t e = let k = both (Literally l) (cond (is_digit l) false true) e in (k.0, no (is_digit l) k.1)
  where
    no : (x : Bool) → cond x false true ≡ true → x ≡ false
    no true q = absurd (true_not (sym q))
    no false q = refl

apart_cons : (l : ℕ) (t : List ℕ) → apart (l ∷ t) ≡ cond (Literally l) (apart t) (cond (ends t) (apart t) false)
unfolding apart
apart_cons l t = refl

taken_cons : (l : ℕ) (t : List ℕ) (f g : Fields) → taken (l ∷ t) f g ≡ taken t f (set_as (piece_of l) l (field_as (piece_of l) l f) g)
unfolding taken
taken_cons l t f g = refl

-- a field is read off its text, whatever template goes on behind it
read_field : (l : ℕ) (a : List ℕ) (m : ℕ) (t : List ℕ) (f g : Fields) → Fit f → Literally l ≡ false → ends (m ∷ t) ≡ true
    → read_by (l ∷ a) (filled (l ∷ m ∷ t) f) g ≡ read_by a (filled (m ∷ t) f) (set_as (piece_of l) l (field_as (piece_of l) l f) g)
read_field l a m t f g fit e k =
    let n = ends_cons m t k in
    let s : List ℕ = filled (l ∷ m ∷ t) f in
    let behind = filled_literal m t f n.0 in
    let piece : read_as (piece_of l) s ≡ got (field_as (piece_of l) l f) (filled (m ∷ t) f) =
    ap (read_as (piece_of l)) (filled_cons l (m ∷ t) f ∙ ap (λ (r : List ℕ). text_as (piece_of l) l f ++ r) behind)
    ∙ field_read (piece_of l) l f m (filled t f) e fit n.1
    ∙ ap (got (field_as (piece_of l) l f)) (sym behind) in
    read_cons l a s g
    ∙ ap (λ (b : Bool). cond b (cond (eqb l (get_or s 0 0)) (read_by a (drop 1 s) g) None) (read_by a (read_as (piece_of l) s).rest (set_as (piece_of l) l (read_as (piece_of l) s).value g))) e
    ∙ ap (λ (r : Got). read_by a r.rest (set_as (piece_of l) l r.value g)) piece

field_on : (l : ℕ) (a t : List ℕ) (f g : Fields) → Fit f → Literally l ≡ false → ends t ≡ true
    → read_by (l ∷ a) (filled (l ∷ t) f) g ≡ read_by a (filled t f) (set_as (piece_of l) l (field_as (piece_of l) l f) g)
field_on l a [] f g fit e k = absurd (true_not (sym k ∙ ends_nil))
field_on l a (m ∷ t) f g fit e k = read_field l a m t f g fit e k

-- a byte that stands for itself is passed, and another is not
literal_on : (l m : ℕ) (a t : List ℕ) (f g : Fields) → Literally l ≡ true → Literally m ≡ true
    → read_by (l ∷ a) (filled (m ∷ t) f) g ≡ cond (eqb l m) (read_by a (filled t f) g) None
literal_on l m a t f g e k = read_cons l a (filled (m ∷ t) f) g ∙ rw (e, filled_literal m t f k)

-- one byte that two templates share is read alike
shared : (l : ℕ) (a t : List ℕ) (f g : Fields) (b : Bool) → Literally l ≡ b → Fit f → apart (l ∷ t) ≡ true
    → (apart t ≡ true) × (read_by (l ∷ a) (filled (l ∷ t) f) g ≡ read_by a (filled t f) (set_as (piece_of l) l (field_as (piece_of l) l f) g))
shared l a t f g true e fit s = (
  ap (λ (x : Bool). cond x (apart t) (cond (ends t) (apart t) false)) (sym e) ∙ sym (apart_cons l t) ∙ s,
  literal_on l l a t f g e e ∙ ap (λ (x : Bool). cond x (read_by a (filled t f) g) None) (eq-eqb l l refl)
      ∙ ap (read_by a (filled t f)) (sym (literal_set (piece_of l) l (field_as (piece_of l) l f) g e)),
)
shared l a t f g false e fit s =
    let k = both (ends t) (apart t) (ap (λ (x : Bool). cond x (apart t) (cond (ends t) (apart t) false)) (sym e) ∙ sym (apart_cons l t) ∙ s) in
    (k.1, field_on l a t f g fit e k.0)

read_nil : (f g : Fields) → read_by [] (filled [] f) g ≡ Some (taken [] f g)
unfolding read_by taken
read_nil f g = refl

-- a template's line is read by it
pub own_read : (t : List ℕ) (f g : Fields) → Fit f → apart t ≡ true → read_by t (filled t f) g ≡ Some (taken t f g)
own_read [] f g fit s = read_nil f g
own_read (l ∷ t) f g fit s =
    let k = shared l t t f g (Literally l) refl fit s in
    k.1 ∙ own_read t f (set_as (piece_of l) l (field_as (piece_of l) l f) g) fit k.0 ∙ ap Some (sym (taken_cons l t f g))

-- and by no template that diverges from it

diverge_cons : (l m : ℕ) (a b : List ℕ) → diverge (l ∷ a) (m ∷ b) ≡ cond (eqb l m) (diverge a b) (cond (Literally l) (Literally m) false)
unfolding diverge
diverge_cons l m a b = refl

diverge_left : (b : List ℕ) → diverge [] b ≡ false
unfolding diverge
diverge_left b = refl

diverge_right : (l : ℕ) (a : List ℕ) → diverge (l ∷ a) [] ≡ false
unfolding diverge
diverge_right l a = refl

other_step : (l m : ℕ) (a t : List ℕ) (f g : Fields) (b : Bool) → eqb l m ≡ b → Fit f → apart (m ∷ t) ≡ true
    → cond b (diverge a t) (cond (Literally l) (Literally m) false) ≡ true
    → ((h : Fields) → apart t ≡ true → diverge a t ≡ true → read_by a (filled t f) h ≡ None) → read_by (l ∷ a) (filled (m ∷ t) f) g ≡ None
other_step l m a t f g true e fit s d rec =
    let k = shared m a t f g (Literally m) refl fit s in
    subst (λ (x : ℕ). read_by (x ∷ a) (filled (m ∷ t) f) g ≡ None) (sym (eqb-true l m e)) (k.1 ∙ rec (set_as (piece_of m) m (field_as (piece_of m) m f) g) k.0 d)
other_step l m a t f g false e fit s d rec =
    let n = both (Literally l) (Literally m) d in
    literal_on l m a t f g n.0 n.1 ∙ ap (λ (x : Bool). cond x (read_by a (filled t f) g) None) e

pub other_refuses : (a t : List ℕ) (f g : Fields) → Fit f → apart t ≡ true → diverge a t ≡ true → read_by a (filled t f) g ≡ None
other_refuses [] t f g fit s d = absurd (true_not (sym d ∙ diverge_left t))
other_refuses (l ∷ a) [] f g fit s d = absurd (true_not (sym d ∙ diverge_right l a))
other_refuses (l ∷ a) (m ∷ t) f g fit s d =
    other_step l m a t f g (eqb l m) refl fit s (sym (diverge_cons l m a t) ∙ d) (λ h k i. other_refuses a t f h fit k i)

-- all 28 templates are apart, and each diverges from all behind it: one test
all_distinct : distinct templates ≡ true
unfolding templates distinct diverges_from diverge apart ends piece_of
all_distinct = refl

distinct_cons : (a : List ℕ) (ts : List (List ℕ)) → distinct (a ∷ ts) ≡ true → (apart a ≡ true) × (diverges_from a ts ≡ true) × (distinct ts ≡ true)
unfolding distinct
distinct_cons a ts e =
    let k = both (apart a) (cond (diverges_from a ts) (distinct ts) false) e in
    let m = both (diverges_from a ts) (distinct ts) k.1 in
    (k.0, m.0, m.1)

diverges_cons : (a b : List ℕ) (ts : List (List ℕ)) → diverges_from a (b ∷ ts) ≡ true → (diverge a b ≡ true) × (diverges_from a ts ≡ true)
unfolding diverges_from
diverges_cons a b ts e = both (diverge a b) (diverges_from a ts) e

diverges_at : (a : List ℕ) (ts : List (List ℕ)) (j : ℕ) → j < length ts → diverges_from a ts ≡ true → diverge a (get_or ts j []) ≡ true
diverges_at a [] j h e = absurd (not-suc-le-zero h)
diverges_at a (b ∷ ts) zero h e = (diverges_cons a b ts e).0
diverges_at a (b ∷ ts) (suc j) h e = diverges_at a ts j (le_of_suc-le-suc h) (diverges_cons a b ts e).1

apart_at : (ts : List (List ℕ)) (j : ℕ) → j < length ts → distinct ts ≡ true → apart (get_or ts j []) ≡ true
apart_at [] j h e = absurd (not-suc-le-zero h)
apart_at (a ∷ ts) zero h e = (distinct_cons a ts e).0
apart_at (a ∷ ts) (suc j) h e = apart_at ts j (le_of_suc-le-suc h) (distinct_cons a ts e).2

row_at : (ts : List (List ℕ)) (j n : ℕ) (f : Fields) → Fit f → j < length ts → distinct ts ≡ true
    → row_from ts (filled (get_or ts j []) f) n ≡ Some (reading (n + j) (taken (get_or ts j []) f no_fields))
row_at [] j n f fit h e = absurd (not-suc-le-zero h)
row_at (t ∷ ts) zero n f fit h e =
    rw (add-zero n) (reads_first t ts (filled t f) n (taken t f no_fields) (own_read t f no_fields fit (distinct_cons t ts e).0))
row_at (t ∷ ts) (suc j) n f fit h e =
    let k = distinct_cons t ts e in
    let i = le_of_suc-le-suc h in
    let u : List ℕ = get_or ts j [] in
    reads_later t ts (filled u f) n (other_refuses t u f no_fields fit (apart_at ts j i k.2) (diverges_at t ts j i k.1))
    ∙ row_at ts j (suc n) f fit i k.2
    ∙ ap (λ (m : ℕ). Some (reading m (taken u f no_fields))) (suc-add n j ∙ sym (add-suc n j))

-- the line of any row's template is read by that template
pub own_row : (row : ℕ) (f : Fields) → Fit f → row < 28 → row_from templates (filled (template_at row) f) 0 ≡ Some (reading row (taken (template_at row) f no_fields))
unfolding template_at
own_row row f fit h =
    row_at templates row 0 f fit (omega (arith, rows_many)) all_distinct ∙ ap (λ (m : ℕ). Some (reading m (taken (get_or templates row []) f no_fields))) (zero-add row)
