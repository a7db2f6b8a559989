-- The first template that reads a text, row by row. Assumes nothing.
use Rattle.std.proofs.Common.{Some, None, Option, ◌<◌, ◌≤◌, ◌+◌, ap, sym, ◌∙◌, get_or, drop, drop_of_length-le, Bor, add-one, arith}
use mathlib.Core.Path.{◌≡◌, refl}
use mathlib.Core.List.{List, ◌∷◌}
use Prim.Native.Nat.{ℕ, suc}
use lib.ListN.{length}
use Rattle.templates.specs.Inside.Matching.{no_fields, reading, row_from}
use Rattle.templates.specs.Inside.Reading.{read_by}
use Rattle.templates.specs.Templates.{templates}
use Rattle.templates.specs.declared.reader.Reading.{Reading}
use Rattle.templates.proofs.Table.{IsTable, from_at}
use Rattle.templates.specs.declared.Fields.{Fields}

pub reads_first : (t : List ℕ) (ts : List (List ℕ)) (s : List ℕ) (n : ℕ) (f : Fields) → read_by t s no_fields ≡ Some f
    → row_from (t ∷ ts) s n ≡ Some (reading n f)
unfolding row_from
reads_first t ts s n f e = rw (e, row_from)

pub reads_later : (t : List ℕ) (ts : List (List ℕ)) (s : List ℕ) (n : ℕ) → read_by t s no_fields ≡ None
    → row_from (t ∷ ts) s n ≡ row_from ts s (suc n)
unfolding row_from
reads_later t ts s n e = rw (e, row_from)

pub rows_many : length templates ≡ 28
unfolding templates
rows_many = refl

-- one row of the table asked: it is the first that reads the text, or those behind it are asked
abbrev pub asked : Option Fields → ℕ → List ℕ → Option Reading
asked (Some f) row s = Some (reading row f)
asked None row s = row_from (drop (row + 1) templates) s (row + 1)

module _ (bs : List (Bor (List ℕ))) (d : Bor (List ℕ)) (row : ℕ) (s : List ℕ) where
  here : IsTable bs → row < length bs → drop row templates ≡ (get_or bs row d).now ∷ drop (suc row) templates
  here t h = ap (drop row) (sym t.same) ∙ from_at bs d row h ∙ ap (λ (ts : List (List ℕ)). (get_or bs row d).now ∷ drop (suc row) ts) t.same

  pub row_asked : (r : Option Fields) → IsTable bs → r ≡ read_by (get_or bs row d).now s no_fields → row < length bs
      → row_from (drop row templates) s row ≡ asked r row s
  row_asked (Some f) t e h = ap (λ (ts : List (List ℕ)). row_from ts s row) (here t h) ∙ reads_first _ (drop (suc row) templates) s row f (sym e)
  row_asked None t e h =
      ap (λ (ts : List (List ℕ)). row_from ts s row) (here t h) ∙ reads_later _ (drop (suc row) templates) s row (sym e)
      ∙ ap (λ (n : ℕ). row_from (drop n templates) s n) (sym (add-one row))

pub no_row : (s : List ℕ) (row : ℕ) → 28 ≤ row → row_from (drop row templates) s row ≡ None
unfolding row_from
no_row s row h = rw (drop_of_length-le templates {i = row} (omega (arith, rows_many)))
