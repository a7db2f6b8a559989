-- Only good sessions are read. Assumes nothing.
use Prim.Native.Nat.{ℕ, zero, suc, ◌+◌, ◌≤◌, zero-le}
use mathlib.Core.Bool.{Bool, true, false, cond, ◌&&◌, and-eq-true_iff}
use mathlib.Core.List.{List, [], ◌∷◌, ◌++◌}
use mathlib.Core.Path.{◌≡◌, refl, ap, ◌∙◌}
use native.Mathlib.Nat.{add-zero}
use native.Mathlib.Omega.{arith}
use borrow.Author.Tests.{leb-true}
use lib.Dec.{leb}
use lib.ListN.{length, drop, drop_of_length-le}
use Rattle.std.proofs.Common.{Option, None, Some}
use Rattle.text.specs.declared.Line.{Line}
use Rattle.text.specs.Lines.{is_line}
use Rattle.text.proofs.Framing.{line_says}
use Rattle.session_lines.specs.LineFormats.{InRange, format_of, line_for, lines_from}
use Rattle.session_lines.specs.Laws.{OnlyGoodIsRead}
use Rattle.session_lines.specs.Parsing.{Parsed, good, bad, before, ended, line_of, parse_lines}
use Rattle.text.proofs.ExactLines.{line_exact}
use Rattle.session_lines.proofs.Parsing.{all_read, one_read, one_wrong}

-- the numbers v were read from a place on, the first of the line with index i, with so many allowed
record Read (allowed i : ℕ) (s : List ℕ) (at : ℕ) (v : List ℕ) : Type 0 where
  enough : 9 ≤ i + length v
  few : length v ≤ allowed
  range : InRange i v
  text : drop at s ≡ lines_from i v

abbrev IfRead : ℕ → ℕ → List ℕ → ℕ → Parsed → Type 0
IfRead allowed i s at p = (v : List ℕ) → p ≡ good v → Read allowed i s at v

module _ (allowed i : ℕ) (s : List ℕ) (at : ℕ) where
  read_bad : (number : ℕ) → IfRead allowed i s at (bad number)
  read_bad number v e = cc

  read_none : 9 ≤ i → length s ≤ at → IfRead allowed i s at (good [])
  unfolding lines_from
  read_none nine all v e =
      let q : [] ≡ v = cc in
      rw (← q) (record { enough = omega arith; few = zero-le; range = λ j. zero-le; text = drop_of_length-le s all })

  read_end : 9 ≤ i → (b : Bool) → ended s at ≡ b → IfRead allowed i s at (cond b (good []) (bad (i + 1)))
  read_end nine true e = read_none nine (leb-true _ _ e)
  read_end nine false e = read_bad (i + 1)

  module _ (x next : ℕ) (line : line_of (format_of i) s at ≡ is_line x next) where
    small : x ≤ (format_of i).most
    small = (line_says (format_of i).key (format_of i).digits (format_of i).most s at x next line).0

    pub in_range : (v : List ℕ) → InRange (i + 1) v → InRange i (x ∷ v)
    in_range v rest zero = rw add-zero small
    in_range v rest (suc j) =
        let same : i + suc j ≡ i + 1 + j = omega arith in
        rw same (rest j)

    one_more : (v : List ℕ) → Read allowed (i + 1) s next v → Read (suc allowed) i s at (x ∷ v)
    unfolding lines_from
    one_more v rest =
        record {
          enough = omega (arith, rest.enough);
          few = omega (arith, rest.few);
          range = in_range v rest.range;
          text = line_exact (format_of i).key (format_of i).digits (format_of i).most s at x next line ∙ ap (λ (l : List ℕ). line_for (format_of i) x ++ l) rest.text;
        }

    read_before : (p : Parsed) → IfRead allowed (i + 1) s next p → IfRead (suc allowed) i s at (before x p)
    read_before (good w) rest v e = let q : x ∷ w ≡ v = cc in rw (← q) (one_more w (rest w refl))
    read_before (bad number) rest v e = cc

module _ (allowed i : ℕ) (s : List ℕ) (at : ℕ) (rest : (next : ℕ) → IfRead allowed (i + 1) s next (parse_lines allowed (i + 1) s next)) where
  read_line : leb 9 i && ended s at ≡ false → (l : Option Line) → line_of (format_of i) s at ≡ l → IfRead (suc allowed) i s at (parse_lines (suc allowed) i s at)
  read_line on (Some line) q =
      rw (one_read allowed i s at on line.value line.next q) (read_before allowed i s at line.value line.next q (parse_lines allowed (i + 1) s line.next) (rest line.next))
  read_line on None q = rw (one_wrong allowed i s at on q) (read_bad (suc allowed) i s at (i + 1))

  read_turn : (b : Bool) → leb 9 i && ended s at ≡ b → IfRead (suc allowed) i s at (parse_lines (suc allowed) i s at)
  read_turn true e =
      let p = (and-eq-true_iff (leb 9 i) (ended s at)).0 e in
      rw (all_read allowed i s at e) (read_none (suc allowed) i s at (leb-true _ _ p.0) (leb-true _ _ p.1))
  read_turn false e = read_line e (line_of (format_of i) s at) refl

read_from : (allowed i : ℕ) (s : List ℕ) (at : ℕ) → 9 ≤ i + allowed → IfRead allowed i s at (parse_lines allowed i s at)
unfolding parse_lines
read_from zero i s at h = read_end 0 i s at (omega arith) (ended s at) refl
read_from (suc allowed) i s at h =
    read_turn allowed i s at (λ next. read_from allowed (i + 1) s next (omega arith)) (leb 9 i && ended s at) refl

pub only_good_is_read : OnlyGoodIsRead
unfolding OnlyGoodIsRead
only_good_is_read s v e =
    let r = read_from 265 0 s 0 (omega arith) v e in
    (record { nine = omega (arith, r.enough); most = r.few; range = r.range }, r.text)
