-- A turn of each writing loop, on lists, bytes from the front and digits from the back; a line as one run of stores. Assumes nothing.
use mathlib.Core.Path.{◌≡◌, refl, ap, sym, ◌∙◌}
use mathlib.Core.List.{List, [], ◌∷◌, ◌++◌}
use Prim.Native.Nat.{ℕ, zero, suc, ◌+◌, ◌/◌, ◌%◌, ◌<◌}
use native.Mathlib.Nat.{add-zero, add-suc, suc-add}
use native.Mathlib.Numerals.{add-one}
use native.Mathlib.Omega.{arith}
use lib.ListN.{length, get_or, set, drop, length-append, length-map}
use lib.Seq.{sets, set_comm, drop-cons}
use Rattle.text.specs.Hex.{digit_of, hex_digits, digits_text}
use Rattle.text.specs.Lines.{line_text, digits_line}

sets_append : (l : List ℕ) (at : ℕ) (a b : List ℕ) → sets (sets l at a) (at + length a) b ≡ sets l at (a ++ b)
sets_append l at [] b = rw add-zero
sets_append l at (x ∷ a) b = rw (add-suc, ← suc-add) (sets_append (set l at x) (suc at) a b)

-- a text of n bytes that is put, and more behind it, are one text
pub after : (l : List ℕ) (at : ℕ) (t : List ℕ) (n : ℕ) (l₁ : List ℕ) (p : ℕ) (more : List ℕ) → length t ≡ n → l₁ ≡ sets l at t → p ≡ at + n
    → sets l₁ p more ≡ sets l at (t ++ more)
after l at t n l₁ p more long e q = rw (e, q, ← long) (sets_append l at t more)

-- the last of a run may be stored first
sets_last : (l : List ℕ) (at : ℕ) (a : List ℕ) (g : ℕ) → sets (set l (at + length a) g) at a ≡ sets l at (a ++ (g ∷ []))
sets_last l at [] g = rw add-zero
sets_last l at (x ∷ a) g =
    rw (set_comm l (at + suc (length a)) at g x (omega arith), add-suc, ← suc-add) (sets_last (set l at x) (suc at) a g)

pub length_digits : (n v : ℕ) → length (hex_digits n v) ≡ n
unfolding hex_digits
length_digits zero v = refl
length_digits (suc n) v = rw (length-append, length_digits n (v / 16)) (omega arith)

pub digits_turn : (l : List ℕ) (at i rest g : ℕ) → g ≡ digit_of (rest % 16)
    → sets l at (hex_digits (suc i) rest) ≡ sets (set l (at + i) g) at (hex_digits i (rest / 16))
unfolding hex_digits
digits_turn l at i rest g e =
    rw e
    (sym (ap (λ (k : ℕ). sets (set l (at + k) (digit_of (rest % 16))) at (hex_digits i (rest / 16))) (sym (length_digits i (rest / 16)))
    ∙ sets_last l at (hex_digits i (rest / 16)) (digit_of (rest % 16))))

pub bytes_turn : (l : List ℕ) (at : ℕ) (t : List ℕ) (i : ℕ) → i < length t
    → sets l (at + i) (drop i t) ≡ sets (set l (at + i) (get_or t i 0)) (at + (i + 1)) (drop (i + 1) t)
bytes_turn l at t i h =
    let next : at + suc i ≡ suc (at + i) = omega arith in
    rw (add-one, drop-cons t i 0 h, next)

pub digits_text_turn : (l : List ℕ) (at : ℕ) (t : List ℕ) (i g : ℕ) → i < length t → g ≡ digit_of (get_or t i 0 % 16)
    → sets l (at + i) (digits_text (drop i t)) ≡ sets (set l (at + i) g) (at + (i + 1)) (digits_text (drop (i + 1) t))
unfolding digits_text
digits_text_turn l at t i g h e =
    let next : at + suc i ≡ suc (at + i) = omega arith in
    rw (add-one, drop-cons t i 0 h, next, e)

pub length_digits_text : (t : List ℕ) → length (digits_text t) ≡ length t
unfolding digits_text
length_digits_text t = rw length-map

-- a key, n digits and a line feed, put one after another
module _ (l : List ℕ) (at : ℕ) (key digits : List ℕ) (n : ℕ) (long : length digits ≡ n) (l₁ l₂ : List ℕ) (e₁ : l₁ ≡ sets l at key) (e₂ : l₂ ≡ sets l₁ (at + length key) digits) where
  all_put : set l₂ (at + length key + n) 10 ≡ sets l at (key ++ (digits ++ (10 ∷ [])))
  all_put =
      after l₁ (at + length key) digits n l₂ (at + length key + n) (10 ∷ []) long e₂ refl
      ∙ after l at key (length key) l₁ (at + length key) (digits ++ (10 ∷ [])) refl e₁ refl

module _ (l : List ℕ) (at : ℕ) (key l₁ l₂ : List ℕ) (e₁ : l₁ ≡ sets l at key) where
  pub line_put : (n v : ℕ) → l₂ ≡ sets l₁ (at + length key) (hex_digits n v) → set l₂ (at + length key + n) 10 ≡ sets l at (line_text key n v)
  unfolding line_text
  line_put n v e₂ = all_put l at key (hex_digits n v) n (length_digits n v) l₁ l₂ e₁ e₂

  pub digits_line_put : (t : List ℕ) → l₂ ≡ sets l₁ (at + length key) (digits_text t) → set l₂ (at + length key + length t) 10 ≡ sets l at (digits_line key t)
  unfolding digits_line
  digits_line_put t e₂ = all_put l at key (digits_text t) (length t) (length_digits_text t) l₁ l₂ e₁ e₂

pub length_line : (key : List ℕ) (n v : ℕ) → length (line_text key n v) ≡ length key + n + 1
unfolding line_text
length_line key n v = rw (length-append, length-append, length_digits) (omega arith)

pub length_digits_line : (key t : List ℕ) → length (digits_line key t) ≡ length key + length t + 1
unfolding digits_line
length_digits_line key t = rw (length-append, length-append, length_digits_text) (omega arith)
