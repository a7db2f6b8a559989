-- What was written is read (for the reader's method). Assumes nothing.
use mathlib.Core.Path.{◌≡◌, refl, ap, sym, ◌∙◌}
use mathlib.Core.Bool.{Bool, true, false, cond}
use mathlib.Core.List.{List, [], ◌∷◌, ◌++◌, append_assoc}
use mathlib.Core.Logic.{⊎_elim}
use Prim.Native.Nat.{ℕ, zero, suc, ◌+◌, ◌-◌, ◌*◌, ◌/◌, ◌%◌, ◌^◌, ◌≤◌, ◌<◌}
use native.Mathlib.Omega.{arith}
use borrow.Author.Tests.{lt-ltb, le-ltb, ne_eqb}
use lib.Dec.{ltb, eqb}
use lib.ListN.{get_or}
use Rattle.text.specs.Ascii.{ascii}
use Rattle.templates.specs.FieldText.{decimal_in, decimal, amount_text, register_text}
use Rattle.templates.specs.Templates.{register_of, text_as}
use Rattle.templates.specs.Inside.Reading.{Got, got, is_digit, read_decimal, read_register, negative, negated, read_amount, read_as, set_as, field_as, is_literal}
use Rattle.templates.specs.declared.Fields.{Fields}
use Rattle.templates.specs.declared.Piece.{Piece}
use Rattle.templates.specs.declared.Piece.TheVariants.{Literal, SpRegister, ZeroRegister, Amount, TagOffset}
use Rattle.templates.proofs.Decimals.{lt_or_ge, one_digit, last_digit, fewer}
use Rattle.templates.proofs.Rows.{true_not}

digit_is : (d : ℕ) → d < 10 → is_digit (48 + d) ≡ true
digit_is d h = simp (le-ltb (48 + d) 48 (omega arith), lt-ltb (48 + d) 58 (omega arith))

digit_step : (w d : ℕ) (s : List ℕ) → w < 10 ^ 18 → d < 10 → read_decimal w ((48 + d) ∷ s) ≡ read_decimal (w * 10 + d) s
unfolding read_decimal
digit_step w d s h k =
    let e : 48 + d - 48 ≡ d = omega arith in
    simp (lt-ltb w (10 ^ 18) h, digit_is d k, e)

digit_stop : (w c : ℕ) (s : List ℕ) → is_digit c ≡ false → read_decimal w (c ∷ s) ≡ got w (c ∷ s)
unfolding read_decimal
digit_stop w c s h = rw h (same (ltb w (10 ^ 18)) (got w (c ∷ s)))
  where
    same : (t : Bool) (x : Got) → cond t x x ≡ x
    same true x = refl
    same false x = refl

only_digit : (n v : ℕ) (r : List ℕ) → v < 10 → read_decimal 0 (decimal_in (suc n) v ++ r) ≡ read_decimal v r
only_digit n v r h =
    let e : 0 * 10 + v ≡ v = omega arith in
    ap (λ (l : List ℕ). read_decimal 0 (l ++ r)) (one_digit n v h) ∙ digit_step 0 v r (omega arith) h ∙ ap (λ (k : ℕ). read_decimal k r) e

-- the digits of a number are read to it
digits_read : (n v : ℕ) (r : List ℕ) → v < 10 ^ suc n → v / 10 < 10 ^ 18 → read_decimal 0 (decimal_in (suc n) v ++ r) ≡ read_decimal v r
digits_read zero v r h k = only_digit 0 v r h
digits_read (suc n) v r h k =
    ⊎_elim
    (λ small. only_digit (suc n) v r small)
    (λ large.
    let d : List ℕ = (48 + v % 10) ∷ [] in
    let e : v / 10 * 10 + v % 10 ≡ v = omega arith in
    ap (λ (l : List ℕ). read_decimal 0 (l ++ r)) (last_digit (suc n) v large)
    ∙ ap (read_decimal 0) (append_assoc (decimal_in (suc n) (v / 10)) d r)
    ∙ digits_read n (v / 10) ((48 + v % 10) ∷ r) (fewer n v h) (omega arith)
    ∙ digit_step (v / 10) (v % 10) r k (omega arith)
    ∙ ap (λ (m : ℕ). read_decimal m r) e)
    (lt_or_ge v 10)

pub decimal_read : (v c : ℕ) (s : List ℕ) → v < 10 ^ 19 → is_digit c ≡ false → read_decimal 0 (decimal v ++ (c ∷ s)) ≡ got v (c ∷ s)
unfolding decimal
decimal_read v c s h k = digits_read 19 v (c ∷ s) (omega arith) (omega arith) ∙ digit_stop v c s k

-- a number's first byte is a digit
abbrev IsDigit : ℕ → Type 0
IsDigit b = (48 ≤ b) × (b < 58)

no_digits : (v : ℕ) → decimal_in zero v ≡ []
unfolding decimal_in
no_digits v = refl

first_in : (n v : ℕ) (t : List ℕ) → IsDigit (get_or (decimal_in (suc n) v ++ t) 0 0)
first_in zero v t =
    ⊎_elim
    (λ h. rw (one_digit 0 v h) (omega arith, omega arith))
    (λ h. rw (last_digit 0 v h, no_digits (v / 10)) (omega arith, omega arith))
    (lt_or_ge v 10)
first_in (suc n) v t =
    ⊎_elim
    (λ h. rw (one_digit (suc n) v h) (omega arith, omega arith))
    (λ h. rw (last_digit (suc n) v h, append_assoc) (first_in n (v / 10) (((48 + v % 10) ∷ []) ++ t)))
    (lt_or_ge v 10)

first_digit : (v : ℕ) (t : List ℕ) → IsDigit (get_or (decimal v ++ t) 0 0)
unfolding decimal
first_digit v t = first_in 19 v t

last_read : (z : Bool) (c : ℕ) (s : List ℕ) → read_register (cond z (ascii "xzr") (ascii "sp") ++ (c ∷ s)) ≡ got 31 (c ∷ s)
unfolding read_register
last_read true c s = refl
last_read false c s = refl

x_read : (r c : ℕ) (s : List ℕ) → r < 31 → is_digit c ≡ false → read_register ((ascii "x" ++ decimal r) ++ (c ∷ s)) ≡ got r (c ∷ s)
unfolding read_register
x_read r c s h k =
    let d = first_digit r (c ∷ s) in
    simp (ne_eqb (get_or (decimal r ++ (c ∷ s)) 0 0) 122 (λ e. omega (arith, e, d.1))) (decimal_read r c s (omega arith) k)

pub register_read : (z : Bool) (r c : ℕ) (s : List ℕ) → r < 32 → is_digit c ≡ false → read_register (register_text z r ++ (c ∷ s)) ≡ got r (c ∷ s)
unfolding register_text
register_read z r c s small k =
    ⊎_elim
    (λ h. simp (lt-ltb r 31 h) (x_read r c s h k))
    (λ h. simp (le-ltb r 31 h) (last_read z c s ∙ ap (λ (n : ℕ). got n (c ∷ s)) (omega arith)))
    (lt_or_ge r 31)

plain_read : (v c : ℕ) (s : List ℕ) → v < 10 ^ 19 → is_digit c ≡ false → read_amount (decimal v ++ (c ∷ s)) ≡ got v (c ∷ s)
unfolding read_amount
plain_read v c s h k =
    let d = first_digit v (c ∷ s) in
    simp (ne_eqb (get_or (decimal v ++ (c ∷ s)) 0 0) 45 (λ e. omega (arith, e, d.0))) (decimal_read v c s h k)

minus_read : (v w c : ℕ) (s : List ℕ) → v + w ≡ 2 ^ 64 → 0 < w → w < 10 ^ 19 → is_digit c ≡ false → read_amount ((ascii "-" ++ decimal w) ++ (c ∷ s)) ≡ got v (c ∷ s)
unfolding read_amount
minus_read v w c s e p h k =
    let n : negative w ≡ v = simp (ne_eqb w 0 (λ q. omega (arith, q, p))) (omega arith) in
    ap negated (decimal_read w c s h k) ∙ ap (λ (m : ℕ). got m (c ∷ s)) n

pub amount_read : (v c : ℕ) (s : List ℕ) → v < 2 ^ 64 → is_digit c ≡ false → read_amount (amount_text v ++ (c ∷ s)) ≡ got v (c ∷ s)
unfolding amount_text
amount_read v c s fits k =
    ⊎_elim
    (λ h. simp (lt-ltb v (2 ^ 63) h) (plain_read v c s (omega (arith, h)) k))
    (λ h. simp (le-ltb v (2 ^ 63) h) (minus_read v (2 ^ 64 - v) c s (omega arith) (omega arith) (omega (arith, h)) k))
    (lt_or_ge v (2 ^ 63))

-- fields that a line can say
pub record Fit (f : Fields) : Type 0 where
  pub first : f.first < 32
  pub second : f.second < 32
  pub third : f.third < 32
  pub amount : f.amount < 2 ^ 64
  pub offset : f.offset < 10 ^ 19

below : (t : Bool) (x y n : ℕ) → x < n → y < n → cond t x y < n
below true x y n h k = h
below false x y n h k = k

register_small : (l : ℕ) (f : Fields) → Fit f → register_of l f < 32
unfolding register_of
register_small l f fit =
    below (eqb l 65) _ _ 32 fit.first
    (below (eqb l 88) _ _ 32 fit.first (below (eqb l 66) _ _ 32 fit.second (below (eqb l 89) _ _ 32 fit.second fit.third)))

-- a field is read off its text
pub field_read : (p : Piece) (l : ℕ) (f : Fields) (c : ℕ) (s : List ℕ) → is_literal p ≡ false → Fit f → is_digit c ≡ false
    → read_as p (text_as p l f ++ (c ∷ s)) ≡ got (field_as p l f) (c ∷ s)
unfolding read_as text_as field_as
field_read Literal l f c s e fit k = absurd (true_not e)
field_read SpRegister l f c s e fit k = register_read false (register_of l f) c s (register_small l f fit) k
field_read ZeroRegister l f c s e fit k = register_read true (register_of l f) c s (register_small l f fit) k
field_read Amount l f c s e fit k = amount_read f.amount c s fit.amount k
field_read TagOffset l f c s e fit k = decimal_read f.offset c s fit.offset k

pub literal_text : (p : Piece) (l : ℕ) (f : Fields) → is_literal p ≡ true → text_as p l f ≡ l ∷ []
unfolding text_as
literal_text Literal l f e = refl
literal_text SpRegister l f e = absurd (true_not (sym e))
literal_text ZeroRegister l f e = absurd (true_not (sym e))
literal_text Amount l f e = absurd (true_not (sym e))
literal_text TagOffset l f e = absurd (true_not (sym e))

pub literal_set : (p : Piece) (l v : ℕ) (g : Fields) → is_literal p ≡ true → set_as p l v g ≡ g
unfolding set_as
literal_set Literal l v g e = refl
literal_set SpRegister l v g e = absurd (true_not (sym e))
literal_set ZeroRegister l v g e = absurd (true_not (sym e))
literal_set Amount l v g e = absurd (true_not (sym e))
literal_set TagOffset l v g e = absurd (true_not (sym e))
