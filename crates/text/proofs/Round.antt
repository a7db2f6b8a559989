-- What is written reads back: the n digits of a number below 16 ^ n, with anything behind them, and a line, wherever it stands.
-- Assumes nothing.
use mathlib.Core.Path.{◌≡◌, refl, ap, sym, ◌∙◌}
use mathlib.Core.Bool.{true}
use mathlib.Core.List.{List, [], ◌∷◌, ◌++◌, append_assoc}
use Prim.Native.Nat.{ℕ, zero, suc, ◌+◌, ◌*◌, ◌/◌, ◌%◌, ◌^◌, ◌<◌}
use native.Mathlib.Nat.{zero-add, add_assoc, pow-suc, mul_assoc}
use native.Mathlib.Omega.{arith}
use lib.ListN.{length, get_or, drop, length-append, length-map}
use lib.Seq.{drop-append_seam, drop-append-add, get_or-append-add, get_or_at}
use borrow.Author.Tests.{eq-eqb}
use Rattle.text.specs.Hex.{digit_value, digit_of, read_hex, hex_digits, digits_text, digits_in, low_bits}
use Rattle.text.specs.Lines.{starts, framed, capped, line_text, digits_line, digits_line_at}
use Rattle.text.specs.RoundTrip.{LineBack, DigitsLineBack}
use Rattle.std.proofs.Common.{Some}
use Rattle.std.proofs.lemmas.Bool.Decides.{nat_tests}
use Rattle.text.proofs.Framing.{frame_end, line_framed, capped_is}
use Rattle.std.proofs.lemmas.Slice.Eq.{starts_is}
use Rattle.std.proofs.lemmas.Bool.Decides.{Decides-eqb}
use Rattle.text.proofs.Reading.{starts_same}
use Rattle.text.proofs.Writing.{length_digits, length_digits_text}

pub digit_back : (v : ℕ) → v < 16 → digit_value (digit_of v) ≡ Some v
unfolding digit_value digit_of
digit_back v h = grind (arith, nat_tests)

read_digit : (m w d : ℕ) (l : List ℕ) → d < 16 → read_hex (suc m) w (digit_of d ∷ l) ≡ read_hex m (w * 16 + d) l
unfolding read_hex
read_digit m w d l h = rw (digit_back d h)

-- the digits of a number, behind digits that spell w and with m more behind them
digits_back : (n m w v : ℕ) (l : List ℕ) → v < 16 ^ n → read_hex (n + m) w (hex_digits n v ++ l) ≡ read_hex m (w * 16 ^ n + v) l
unfolding hex_digits
digits_back zero m w v l h =
    let e : w * 16 ^ 0 + v ≡ w = omega arith in
    rw (zero-add, e)
digits_back (suc n) m w v l h =
    let small : v % 16 < 16 = omega arith in
    let top : v < 16 ^ n * 16 = rw pow-suc at h in
    let high : v / 16 < 16 ^ n = omega arith in
    let more : suc n + m ≡ n + suc m = omega arith in
    let grown : w * 16 ^ suc n ≡ w * 16 ^ n * 16 = rw (pow-suc, mul_assoc) in
    let all : (w * 16 ^ n + v / 16) * 16 + v % 16 ≡ w * 16 ^ suc n + v = omega arith in
    rw (append_assoc, more)
    (digits_back n (suc m) w (v / 16) (digit_of (v % 16) ∷ l) high
    ∙ read_digit m (w * 16 ^ n + v / 16) (v % 16) l small
    ∙ ap (λ (k : ℕ). read_hex m k l) all)

pub number_back : (n v : ℕ) (l : List ℕ) → v < 16 ^ n → read_hex n 0 (hex_digits n v ++ l) ≡ Some v
unfolding read_hex
number_back n v l h =
    let e : 0 * 16 ^ n + v ≡ v = omega arith in
    let z : n + 0 ≡ n = omega arith in
    ap (λ (k : ℕ). read_hex k 0 (hex_digits n v ++ l)) (sym z) ∙ digits_back n 0 0 v l h ∙ ap Some e

starts_self : (key l : List ℕ) → starts key (key ++ l) ≡ true
starts_self key l = (starts_is Decides-eqb (key ++ l) key _ (starts_same key (key ++ l))).1 l refl

-- a key, digits and a line feed between any two lists
module _ (before key digits behind : List ℕ) where
  abbrev standing : List ℕ
  standing = before ++ (key ++ (digits ++ (10 ∷ behind)))

  at_digits : drop (length before + length key) standing ≡ digits ++ (10 ∷ behind)
  at_digits = drop-append-add before (key ++ (digits ++ (10 ∷ behind))) (length key) ∙ drop-append_seam key (digits ++ (10 ∷ behind))

  module _ (n : ℕ) (long : length digits ≡ n) where
    at_end : get_or standing (length before + length key + n) 0 ≡ 10
    at_end =
        ap (λ (i : ℕ). get_or standing i 0) (add_assoc (length before) (length key) n)
        ∙ get_or-append-add before (key ++ (digits ++ (10 ∷ behind))) (length key + n) 0
        ∙ get_or-append-add key (digits ++ (10 ∷ behind)) n 0
        ∙ get_or_at digits 10 behind 0 n long

    frame_back : framed key n standing (length before) ≡ true
    frame_back =
        let size : length standing ≡ length before + (length key + (n + suc (length behind))) = simp (length-append, long) in
        let there : starts key (drop (length before) standing) ≡ true = rw (drop-append_seam before) (starts_self key (digits ++ (10 ∷ behind))) in
        frame_end key n standing (length before) (omega arith) there ∙ eq-eqb _ _ at_end

pub line_back : LineBack
unfolding line_text
line_back key n most v before behind h k =
    let digits : List ℕ = hex_digits n v in
    let s : List ℕ = standing before key digits behind in
    let number : read_hex n 0 (drop (length before + length key) s) ≡ Some v = rw (at_digits before key digits behind) (number_back n v (10 ∷ behind) h) in
    rw (append_assoc, append_assoc)
    (line_framed key n most s (length before) (frame_back before key digits behind n (length_digits n v))
    ∙ ap (capped most (length before + (length key + n + 1))) number
    ∙ capped_is most (length before + (length key + n + 1)) v k)

digits_in_back : (t l : List ℕ) → digits_in (digits_text t ++ (10 ∷ l)) ≡ low_bits t
unfolding digits_text digits_in low_bits digit_value
digits_in_back [] l = refl
digits_in_back (b ∷ t) l =
    let small : b % 16 < 16 = omega arith in
    rw (digit_back (b % 16) small) (ap (λ (r : List ℕ). b % 16 ∷ r) (digits_in_back t l))

pub digits_line_back : DigitsLineBack
unfolding digits_line digits_line_at
digits_line_back key t before behind =
    let digits : List ℕ = digits_text t in
    let numbers : digits_in (drop (length before + length key) (standing before key digits behind)) ≡ low_bits t
    = rw (at_digits before key digits behind) (digits_in_back t behind) in
    let long : length (low_bits t) ≡ length t = unfold low_bits in rw length-map in
    rw (append_assoc, append_assoc, frame_back before key digits behind (length t) (length_digits_text t), numbers, eq-eqb _ _ long)
