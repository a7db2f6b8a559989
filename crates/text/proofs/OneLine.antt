-- A text that is one line: its only line feed is its last byte. Assumes nothing.
use Prim.Native.Nat.{ℕ, zero, suc, ◌/◌, ◌%◌}
use mathlib.Core.Bool.{Bool, true, false, cond}
use mathlib.Core.List.{List, [], ◌∷◌, ◌++◌}
use mathlib.Core.Path.{◌≡◌, refl}
use native.Mathlib.Omega.{arith}
use borrow.Author.Tests.{le-ltb, lt-ltb, ltb-false, ltb-true, ne_eqb}
use lib.Dec.{eqb, ltb}
use Rattle.text.specs.Hex.{digit_of, hex_digits}
use Rattle.text.specs.Lines.{line_text}

-- no byte is a line feed
abbrev pub no_feed : List ℕ → Bool
no_feed [] = true
no_feed (b ∷ s) = cond (eqb b 10) false (no_feed s)

abbrev pub is_empty : List ℕ → Bool
is_empty [] = true
is_empty (b ∷ s) = false

-- the last byte is a line feed, and no other
abbrev pub one_line : List ℕ → Bool
one_line [] = false
one_line (b ∷ s) = cond (eqb b 10) (is_empty s) (one_line s)

no_feed_by : (t x y : Bool) → (x ≡ true → y ≡ true) → cond t false x ≡ true → cond t false y ≡ true
no_feed_by true x y rest e = e
no_feed_by false x y rest e = rest e

pub no_feed_append : (a b : List ℕ) → no_feed a ≡ true → no_feed b ≡ true → no_feed (a ++ b) ≡ true
no_feed_append [] b e f = f
no_feed_append (x ∷ a) b e f = no_feed_by (eqb x 10) (no_feed a) (no_feed (a ++ b)) (λ h. no_feed_append a b h f) e

one_line_by : (t x y z : Bool) → (x ≡ true → y ≡ true) → cond t false x ≡ true → cond t z y ≡ true
one_line_by true x y z rest e = let k : ◌≡◌ {A = ℕ} 0 1 = cc in absurd (omega arith)
one_line_by false x y z rest e = rest e

pub one_line_append : (a b : List ℕ) → no_feed a ≡ true → one_line b ≡ true → one_line (a ++ b) ≡ true
one_line_append [] b e f = f
one_line_append (x ∷ a) b e f =
    one_line_by (eqb x 10) (no_feed a) (one_line (a ++ b)) (is_empty (a ++ b)) (λ h. one_line_append a b h f) e

-- the line of a number is one, if its key has no line feed

digit_by : (v : ℕ) (t : Bool) → ltb v 10 ≡ t → digit_of v ≡ 10 → ⊥
unfolding digit_of
digit_by v true e q = let same = rw (lt-ltb v 10 (ltb-true v 10 e)) at q in absurd (omega arith)
digit_by v false e q = let same = rw (le-ltb v 10 (ltb-false v 10 e)) at q in absurd (omega arith)

digit_plain : (v : ℕ) → no_feed (digit_of v ∷ []) ≡ true
digit_plain v = rw (ne_eqb (digit_of v) 10 (digit_by v (ltb v 10) refl))

digits_plain : (n v : ℕ) → no_feed (hex_digits n v) ≡ true
unfolding hex_digits
digits_plain zero v = refl
digits_plain (suc n) v = no_feed_append (hex_digits n (v / 16)) (digit_of (v % 16) ∷ []) (digits_plain n (v / 16)) (digit_plain (v % 16))

pub line_once : (key : List ℕ) (n v : ℕ) → no_feed key ≡ true → one_line (line_text key n v) ≡ true
unfolding line_text
line_once key n v e =
    one_line_append key (hex_digits n v ++ (10 ∷ [])) e (one_line_append (hex_digits n v) (10 ∷ []) (digits_plain n v) refl)
