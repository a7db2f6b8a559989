-- Rules of every row of the templates, each proved by one test that antt computes over all of them. Assumes nothing.
use mathlib.Core.Path.{◌≡◌, refl, sym, ap, ◌∙◌, subst}
use mathlib.Core.Bool.{Bool, true, false, cond}
use mathlib.Core.List.{List, [], ◌∷◌}
use Prim.Native.Nat.{ℕ, zero, suc, ◌+◌, ◌≤◌, ◌<◌}
use native.Mathlib.Nat.{le_of_suc-le-suc, not-suc-le-zero}
use native.Mathlib.Omega.{arith}
use borrow.Author.Tests.{eq-eqb, leb-true}
use lib.Dec.{eqb, leb}
use lib.ListN.{length, get_or, length-append}
use Rattle.templates.specs.Templates.{templates, template_at, piece_of, text_as, filled}
use Rattle.templates.specs.declared.Fields.{Fields}
use Rattle.templates.specs.declared.Piece.{Piece}
use Rattle.templates.specs.declared.Piece.TheVariants.{Literal, SpRegister, ZeroRegister, Amount, TagOffset}
use Rattle.templates.proofs.Writing.{piece_short}

pub true_not : true ≡ false → ⊥
true_not e = subst (λ (b : Bool). cond b Unit ⊥) e tt

pub both : (x y : Bool) → cond x y false ≡ true → (x ≡ true) × (y ≡ true)
both true y e = (refl, e)
both false y e = absurd (true_not (sym e))

-- a test passes at every row
abbrev pub all_rows : (List ℕ → Bool) → List (List ℕ) → Bool
all_rows test [] = true
all_rows test (t ∷ ts) = cond (test t) (all_rows test ts) false

pub at_row : (test : List ℕ → Bool) (ts : List (List ℕ)) (row : ℕ) → all_rows test ts ≡ true → row < length ts → test (get_or ts row []) ≡ true
at_row test [] row e h = absurd (not-suc-le-zero h)
at_row test (t ∷ ts) zero e h = (both (test t) (all_rows test ts) e).0
at_row test (t ∷ ts) (suc row) e h = at_row test ts row (both (test t) (all_rows test ts) e).1 (le_of_suc-le-suc h)

pub at_template : (test : List ℕ → Bool) → all_rows test templates ≡ true → (row : ℕ) → row < 28 → test (template_at row) ≡ true
unfolding template_at templates
at_template test e row h = at_row test templates row e h

-- the length of a piece, at most
abbrev width_of : Piece → ℕ
width_of Literal = 1
width_of SpRegister = 21
width_of ZeroRegister = 21
width_of Amount = 21
width_of TagOffset = 21

abbrev width : List ℕ → ℕ
width [] = 0
width (l ∷ t) = width_of (piece_of l) + width t

in_width : (p : Piece) (l : ℕ) (f : Fields) → length (text_as p l f) ≤ width_of p
unfolding text_as
in_width Literal l f = omega arith
in_width SpRegister l f = piece_short SpRegister l f
in_width ZeroRegister l f = piece_short ZeroRegister l f
in_width Amount l f = piece_short Amount l f
in_width TagOffset l f = piece_short TagOffset l f

filled_width : (t : List ℕ) (f : Fields) → length (filled t f) ≤ width t
unfolding filled
filled_width [] f = omega arith
filled_width (l ∷ t) f = rw length-append (omega (arith, in_width (piece_of l) l f, filled_width t f))

all_narrow : all_rows (λ (t : List ℕ). leb (width t) 100) templates ≡ true
unfolding templates piece_of
all_narrow = refl

-- no line is longer than 100 bytes
pub line_short : (row : ℕ) (f : Fields) → row < 28 → length (filled (template_at row) f) ≤ 100
line_short row f h =
    omega (arith, filled_width (template_at row) f, leb-true (width (template_at row)) 100 (at_template (λ (t : List ℕ). leb (width t) 100) all_narrow row h))

-- no template is longer than 24 bytes
all_fit : all_rows (λ (t : List ℕ). leb (length t) 24) templates ≡ true
unfolding templates
all_fit = refl

pub fits : (row : ℕ) → row < 28 → length (template_at row) ≤ 24
fits row h = leb-true (length (template_at row)) 24 (at_template (λ (t : List ℕ). leb (length t) 24) all_fit row h)

-- no template has a zero

abbrev no_zero : List ℕ → Bool
no_zero [] = true
no_zero (b ∷ t) = cond (eqb b 0) false (no_zero t)

all_no_zero : all_rows no_zero templates ≡ true
unfolding templates
all_no_zero = refl

zero_behind : (t : List ℕ) (i : ℕ) → no_zero t ≡ true → get_or t i 0 ≡ 0 → length t ≤ i
zero_behind [] i e z = omega arith
zero_behind (b ∷ t) zero e z = absurd (true_not (sym e ∙ ap (λ (x : Bool). cond x false (no_zero t)) (eq-eqb b 0 z)))
zero_behind (b ∷ t) (suc i) e z = omega (arith, zero_behind t i (tail (eqb b 0) e) z)
  where
    tail : (x : Bool) → cond x false (no_zero t) ≡ true → no_zero t ≡ true
    tail true k = absurd (true_not (sym k))
    tail false k = k

pub ended : (row i : ℕ) → row < 28 → get_or (template_at row) i 0 ≡ 0 → length (template_at row) ≤ i
ended row i h z = zero_behind (template_at row) i (at_template no_zero all_no_zero row h) z
