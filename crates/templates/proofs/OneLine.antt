-- Every line that is made is one line, and begins with a letter. Assumes nothing.
use Prim.Native.Nat.{ℕ, zero, suc, ◌+◌, ◌-◌, ◌/◌, ◌%◌, ◌^◌, ◌≤◌, ◌<◌}
use mathlib.Core.Bool.{Bool, true, false, cond}
use mathlib.Core.List.{List, [], ◌∷◌}
use mathlib.Core.Path.{◌≡◌, refl, ap}
use native.Mathlib.Omega.{arith}
use borrow.Author.Tests.{eqb-true, le-ltb, leb-true, ne_eqb}
use lib.Dec.{eqb, leb, ltb}
use lib.ListN.{get_or}
use Rattle.text.proofs.OneLine.{is_empty, no_feed, no_feed_append, one_line, one_line_append}
use Rattle.templates.specs.FieldText.{amount_text, decimal, decimal_in, register_text}
use Rattle.templates.specs.Templates.{filled, piece_of, register_of, template_at, templates, text_as}
use Rattle.templates.specs.declared.Fields.{Fields}
use Rattle.templates.specs.declared.Piece.{Piece}
use Rattle.templates.specs.declared.Piece.TheVariants.{Literal, SpRegister, ZeroRegister, Amount, TagOffset}
use Rattle.templates.proofs.Rows.{all_rows, at_template}

-- no field has a line feed

by_test : (b : Bool) (x y : List ℕ) → no_feed x ≡ true → no_feed y ≡ true → no_feed (cond b x y) ≡ true
by_test true x y e f = e
by_test false x y e f = f

digit_plain : (v : ℕ) → no_feed ((48 + v) ∷ []) ≡ true
digit_plain v = rw (ne_eqb (48 + v) 10 (λ e. absurd (omega arith)))

decimal_plain : (n v : ℕ) → no_feed (decimal_in n v) ≡ true
unfolding decimal_in
decimal_plain zero v = refl
decimal_plain (suc n) v =
    by_test (ltb v 10) _ _ (digit_plain v) (no_feed_append (decimal_in n (v / 10)) _ (decimal_plain n (v / 10)) (digit_plain (v % 10)))

number_plain : (v : ℕ) → no_feed (decimal v) ≡ true
unfolding decimal
number_plain v = decimal_plain 20 v

amount_plain : (v : ℕ) → no_feed (amount_text v) ≡ true
unfolding amount_text
amount_plain v = by_test (ltb v (2 ^ 63)) _ _ (number_plain v) (number_plain (2 ^ 64 - v))

register_plain : (b : Bool) (r : ℕ) → no_feed (register_text b r) ≡ true
unfolding register_text
register_plain b r = by_test (ltb r 31) _ _ (number_plain r) (by_test b _ _ refl refl)

piece_plain : (p : Piece) (l : ℕ) (f : Fields) → eqb l 10 ≡ false → no_feed (text_as p l f) ≡ true
unfolding text_as
piece_plain Literal l f e = rw e
piece_plain SpRegister l f e = register_plain false (register_of l f)
piece_plain ZeroRegister l f e = register_plain true (register_of l f)
piece_plain Amount l f e = amount_plain f.amount
piece_plain TagOffset l f e = number_plain f.offset

-- a template that is one line makes one line

last_by : (t : List ℕ) (f : Fields) → is_empty t ≡ true → filled (10 ∷ t) f ≡ 10 ∷ []
unfolding filled piece_of text_as
last_by [] f e = refl
last_by (l ∷ t) f e = let z : ◌≡◌ {A = ℕ} 0 1 = cc in absurd (omega arith)

fill_by : (l : ℕ) (t : List ℕ) (f : Fields) (b : Bool) → eqb l 10 ≡ b → cond b (is_empty t) (one_line t) ≡ true
    → (one_line t ≡ true → one_line (filled t f) ≡ true) → one_line (filled (l ∷ t) f) ≡ true
unfolding filled
fill_by l t f true q e rest =
    let feed : l ≡ 10 = eqb-true l 10 q in
    rw feed (ap one_line (last_by t f e))
fill_by l t f false q e rest = one_line_append (text_as (piece_of l) l f) (filled t f) (piece_plain (piece_of l) l f q) (rest e)

fill_once : (t : List ℕ) (f : Fields) → one_line t ≡ true → one_line (filled t f) ≡ true
fill_once [] f e = let z : ◌≡◌ {A = ℕ} 0 1 = cc in absurd (omega arith)
fill_once (l ∷ t) f e = fill_by l t f (eqb l 10) refl e (fill_once t f)

all_once : all_rows one_line templates ≡ true
unfolding templates
all_once = refl

-- a letter stands for itself

letter : (l : ℕ) → 97 ≤ l → piece_of l ≡ Literal
unfolding piece_of
letter l h =
    simp (le-ltb l 65 (omega arith), le-ltb l 68 (omega arith), le-ltb l 73 (omega arith), le-ltb l 74 (omega arith), le-ltb l 75 (omega arith), le-ltb l 88 (omega arith), le-ltb l 91 (omega arith))

first_letter : (t : List ℕ) (f : Fields) → 97 ≤ get_or t 0 0 → 97 ≤ get_or (filled t f) 0 0
unfolding filled text_as
first_letter [] f h = absurd (omega arith)
first_letter (l ∷ t) f h = rw (letter l h) h

all_letters : all_rows (λ (t : List ℕ). leb 97 (get_or t 0 0)) templates ≡ true
unfolding templates
all_letters = refl

module _ (row : ℕ) (f : Fields) (h : row < 28) where
  pub row_once : one_line (filled (template_at row) f) ≡ true
  row_once = fill_once (template_at row) f (at_template one_line all_once row h)

  pub row_letter : 97 ≤ get_or (filled (template_at row) f) 0 0
  row_letter =
      first_letter (template_at row) f (leb-true 97 (get_or (template_at row) 0 0) (at_template (λ (t : List ℕ). leb 97 (get_or t 0 0)) all_letters row h))
