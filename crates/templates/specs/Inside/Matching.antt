-- The first template that reads a text, and why a line is read by its own template alone. No notion of document 02.
use Rattle.std.specs.Prelude.{ℕ, suc, Bool, true, false, cond, List, [], ◌∷◌, eqb, Option, Some, None}
use Rattle.templates.specs.Templates.{piece_of}
use Rattle.templates.specs.Inside.Reading.{is_digit, is_literal, set_as, field_as, read_by}
use Rattle.templates.specs.declared.Fields.{Fields}
use Rattle.templates.specs.declared.reader.Reading.{Reading}

abbrev pub no_fields : Fields
no_fields = record { first = 0; second = 0; third = 0; amount = 0; offset = 0 }

abbrev pub reading : ℕ → Fields → Reading
reading n f = record { row = n; fields = f }

-- the first template that reads the text, its row counted from n, with the fields
unfoldable pub row_from : List (List ℕ) → List ℕ → ℕ → Option Reading
row_from [] s n = None
row_from (t ∷ ts) s n = elim (read_by t s no_fields) [ Some f ↦ Some (reading n f) | None ↦ row_from ts s (suc n) ]

-- the fields that a template names, taken over
unfoldable pub taken : List ℕ → Fields → Fields → Fields
taken [] f g = g
taken (l ∷ t) f g = taken t f (set_as (piece_of l) l (field_as (piece_of l) l f) g)

-- a template begins with a byte that stands for itself and is no digit
unfoldable pub ends : List ℕ → Bool
ends [] = false
ends (l ∷ t) = cond (is_literal (piece_of l)) (cond (is_digit l) false true) false

-- behind each field stands such a byte
unfoldable pub apart : List ℕ → Bool
apart [] = true
apart (l ∷ t) = cond (is_literal (piece_of l)) (apart t) (cond (ends t) (apart t) false)

-- two templates are alike up to two different bytes that stand for themselves
unfoldable pub diverge : List ℕ → List ℕ → Bool
diverge [] b = false
diverge (l ∷ a) [] = false
diverge (l ∷ a) (m ∷ b) = cond (eqb l m) (diverge a b) (cond (is_literal (piece_of l)) (is_literal (piece_of m)) false)

unfoldable pub diverges_from : List ℕ → List (List ℕ) → Bool
diverges_from a [] = true
diverges_from a (b ∷ ts) = cond (diverge a b) (diverges_from a ts) false

-- each template is apart, and diverges from all behind it
unfoldable pub distinct : List (List ℕ) → Bool
distinct [] = true
distinct (a ∷ ts) = cond (apart a) (cond (diverges_from a ts) (distinct ts) false) false
