-- The lines of a text, one after another. Assumes nothing.
use Rattle.std.proofs.Common.{Option, Some, None, ◌&&◌, map, sum}
use Rattle.std.proofs.lemmas.List.Sums.{sum_by-cons}
use Rattle.std.specs.List.{position_from, starts_with}
use Prim.Native.Nat.{ℕ, zero, suc, ◌+◌, ◌≤◌, ◌<◌}
use mathlib.Core.Bool.{Bool, true, false, cond}
use mathlib.Core.List.{List, [], ◌∷◌}
use mathlib.Core.Path.{◌≡◌, refl, ap, sym, ◌∙◌}
use native.Mathlib.Omega.{arith}
use lib.Dec.{eqb}
use lib.ListN.{length, take, drop, length-take}
use lib.Seq.{drop-cons}
use Rattle.text.specs.Lines.{starts}
use Rattle.assembly.specs.SourceLines.{bytes_of, first_line, in_front, is_ended, lines_of}

-- the first line feed, and the end where there is none

abbrev pub Feed : ℕ → Bool
Feed b = eqb b 10

-- the bytes of a first line that is i bytes behind, by where its line feed is found
abbrev size_for : Option ℕ → ℕ → ℕ
size_for (Some k) end = k + 1
size_for None end = end

size_by : (b : ℕ) (s : List ℕ) (i : ℕ) (t : Bool) → i + 1 + length (first_line s) ≡ size_for (position_from Feed (i + 1) s) (i + 1 + length s)
    → i + suc (length (cond t [] (first_line s))) ≡ size_for (cond t (Some i) (position_from Feed (i + 1) s)) (i + suc (length s))
size_by b s i true rest = omega arith
size_by b s i false rest =
    let more : (n : ℕ) → i + suc n ≡ i + 1 + n = λ n. omega arith in
    more (length (first_line s)) ∙ rest ∙ ap (size_for (position_from Feed (i + 1) s)) (sym (more (length s)))

size_from : (s : List ℕ) (i : ℕ) → i + length (first_line s) ≡ size_for (position_from Feed i s) (i + length s)
unfolding first_line
size_from [] i = refl
size_from (b ∷ s) i = size_by b s i (eqb b 10) (size_from s (i + 1))

pub size_fed : (s : List ℕ) (i : ℕ) → position_from Feed 0 s ≡ Some i → i + 1 ≡ length (first_line s)
size_fed s i e = omega (arith, size_from s 0, ap (λ (r : Option ℕ). size_for r (0 + length s)) e)

pub size_unfed : (s : List ℕ) → position_from Feed 0 s ≡ None → length s ≡ length (first_line s)
size_unfed s e = omega (arith, size_from s 0, ap (λ (r : Option ℕ). size_for r (0 + length s)) e)

and_as_cond : (t u : Bool) → cond t u false ≡ (t && u)
and_as_cond true u = refl
and_as_cond false u = refl

-- as std's test finds it
pub starts_as : (key l : List ℕ) → starts key l ≡ starts_with eqb l key
unfolding starts
starts_as [] l = refl
starts_as (k ∷ key) [] = refl
starts_as (k ∷ key) (b ∷ l) = ap (λ (t : Bool). cond (eqb k b) t false) (starts_as key l) ∙ and_as_cond (eqb k b) (starts_with eqb l key)

-- the first line of a text is the text's front

pub first_front : (s : List ℕ) → take (length (first_line s)) s ≡ first_line s
unfolding first_line
first_front [] = refl
first_front (b ∷ s) = ap (λ (l : List ℕ). b ∷ l) (by (eqb b 10) (first_front s))
  where
    by : (t : Bool) → take (length (first_line s)) s ≡ first_line s → take (length (cond t [] (first_line s))) s ≡ cond t [] (first_line s)
    by true rest = refl
    by false rest = rest

pub first_within : (s : List ℕ) → length (first_line s) ≤ length s
first_within s = omega (arith, ap length (first_front s), length-take (length (first_line s)) s)

-- the lines of a text are its first line and the lines behind it

split_by : (b : ℕ) (s : List ℕ) (t : Bool)
    → in_front b (lines_of s) ≡ (b ∷ first_line s) ∷ lines_of (drop (length (first_line s)) s)
    → cond t ((b ∷ []) ∷ lines_of s) (in_front b (lines_of s)) ≡ (b ∷ cond t [] (first_line s)) ∷ lines_of (drop (length (cond t [] (first_line s))) s)
split_by b s true rest = refl
split_by b s false rest = rest

split : (b : ℕ) (s : List ℕ) → lines_of (b ∷ s) ≡ first_line (b ∷ s) ∷ lines_of (drop (length (first_line (b ∷ s))) (b ∷ s))
unfolding lines_of first_line
split b [] = split_by b [] (eqb b 10) refl
split b (x ∷ s) = split_by b (x ∷ s) (eqb b 10) (ap (in_front b) (split x s))

pub split_first : (s : List ℕ) → 0 < length s → lines_of s ≡ first_line s ∷ lines_of (drop (length (first_line s)) s)
split_first [] h = absurd (omega arith)
split_first (b ∷ s) h = split b s

pub no_lines : (s : List ℕ) → length s ≡ 0 → lines_of s ≡ []
unfolding lines_of
no_lines [] h = refl
no_lines (b ∷ s) h = absurd (omega arith)

-- how many bytes lines have

abbrev pub total : List (List ℕ) → ℕ
total [] = 0
total (line ∷ lines) = length line + total lines

total_front : (b : ℕ) (lines : List (List ℕ)) → total (in_front b lines) ≡ suc (total lines)
total_front b [] = omega arith
total_front b (line ∷ lines) = omega arith

total_by : (b : ℕ) (s : List ℕ) (t : Bool) → total (lines_of s) ≡ length s → total (cond t ((b ∷ []) ∷ lines_of s) (in_front b (lines_of s))) ≡ suc (length s)
total_by b s true rest = omega (arith, rest)
total_by b s false rest = omega (arith, total_front b (lines_of s), rest)

pub total_all : (s : List ℕ) → total (lines_of s) ≡ length s
unfolding lines_of
total_all [] = refl
total_all (b ∷ s) = total_by b s (eqb b 10) (total_all s)

pub sum_total : (n : ℕ) (lines : List (List ℕ)) → sum (map length (take n lines)) ≡ bytes_of n lines
unfolding bytes_of
sum_total zero lines = refl
sum_total (suc n) [] = refl
sum_total (suc n) (line ∷ lines) = sum_by-cons (λ x. x) (length line) (map length (take n lines)) ∙ ap (λ (k : ℕ). length line + k) (sum_total n lines)

bytes_within : (n : ℕ) (lines : List (List ℕ)) → bytes_of n lines ≤ total lines
unfolding bytes_of
bytes_within zero lines = omega arith
bytes_within (suc n) [] = omega arith
bytes_within (suc n) (line ∷ lines) = omega (arith, bytes_within n lines)

pub bytes_short : (n : ℕ) (s : List ℕ) → bytes_of n (lines_of s) ≤ length s
bytes_short n s = omega (arith, bytes_within n (lines_of s), total_all s)

-- and how many there are, at most

count_front : (b : ℕ) (lines : List (List ℕ)) → length (in_front b lines) ≤ suc (length lines)
count_front b [] = omega arith
count_front b (line ∷ lines) = omega arith

count_by : (b : ℕ) (s : List ℕ) (t : Bool) → length (lines_of s) ≤ length s → length (cond t ((b ∷ []) ∷ lines_of s) (in_front b (lines_of s))) ≤ suc (length s)
count_by b s true rest = omega arith
count_by b s false rest = omega (arith, count_front b (lines_of s))

pub count_short : (s : List ℕ) → length (lines_of s) ≤ length s
unfolding lines_of
count_short [] = omega arith
count_short (b ∷ s) = count_by b s (eqb b 10) (count_short s)

-- an empty line is not ended, an ended one has a byte, and before a text's end a line begins that has one

pub empty_unended : (line : List ℕ) → length line ≡ 0 → is_ended line ≡ false
unfolding is_ended
empty_unended [] h = refl
empty_unended (b ∷ line) h = absurd (omega arith)

pub ended_long : (line : List ℕ) → is_ended line ≡ true → 1 ≤ length line
unfolding is_ended
ended_long [] e = let z : ◌≡◌ {A = ℕ} 0 1 = cc in absurd (omega arith)
ended_long (b ∷ line) e = omega arith

pub first_some : (s : List ℕ) (at : ℕ) → at < length s → 1 ≤ length (first_line (drop at s))
unfolding first_line
first_some s at h = rw (drop-cons s at 0 h) (omega arith)
