-- A line that is read is the line of its number, and the text behind it. Assumes nothing.
use Prim.Native.Nat.{ℕ, zero, suc, ◌+◌, ◌*◌, ◌/◌, ◌%◌, ◌≤◌, ◌<◌}
use mathlib.Core.Bool.{Bool, true, false, cond, ◌&&◌, and-eq-true_iff}
use mathlib.Core.List.{List, [], ◌∷◌, ◌++◌, append_assoc, append-nil}
use mathlib.Core.Path.{◌≡◌, refl, sym, ap, ◌∙◌}
use native.Mathlib.Nat.{add-zero, zero-add}
use native.Mathlib.Omega.{arith}
use borrow.Author.Tests.{eqb-true}
use lib.Dec.{eqb, leb}
use lib.ListN.{length, get_or, take, drop, take-append-drop}
use lib.Seq.{drop-cons, drop-drop}
use Rattle.text.specs.Hex.{digit_of, hex_digits, read_hex, digit_value}
use Rattle.text.specs.Lines.{capped, framed, is_line, line_at, line_text, starts}
use Rattle.std.proofs.Common.{Option, None, Some}
use Rattle.std.proofs.lemmas.Option.{option_and_then_some}
use Rattle.std.proofs.lemmas.Bool.Decides.{nat_tests}
use Rattle.std.proofs.lemmas.Slice.Eq.{starts_is}
use Rattle.std.proofs.lemmas.Bool.Decides.{Decides-eqb}
use Rattle.text.proofs.Reading.{digit_small, starts_same}
use Rattle.text.proofs.Framing.{frame_fits, line_same, line_framed, line_says, line_unframed}

-- a digit is the digit of its number

digit_exact : (b d : ℕ) → digit_value b ≡ Some d → digit_of d ≡ b
unfolding digit_value digit_of
digit_exact b d e = grind (arith, nat_tests)

-- the digits of a number, read one after another

digits_more : (k w d : ℕ) → d < 16 → hex_digits (suc k) (w * 16 + d) ≡ hex_digits k w ++ (digit_of d ∷ [])
unfolding hex_digits
digits_more k w d h =
    let high : (w * 16 + d) / 16 ≡ w = omega arith in
    let low : (w * 16 + d) % 16 ≡ d = omega arith in
    rw (high, low)

digits_from : (k n w v : ℕ) (l : List ℕ) → read_hex n w l ≡ Some v → hex_digits k w ++ take n l ≡ hex_digits (k + n) v
unfolding read_hex
digits_from k zero w v l e = let same : w ≡ v = cc in rw (add-zero, append-nil, same)
digits_from k (suc n) w v [] e = cc
digits_from k (suc n) w v (b ∷ l) e =
    option_and_then_some (λ (d : ℕ). read_hex n (w * 16 + d) l) (digit_value b) v e (λ (d : ℕ). onward d (digits_from (suc k) n (w * 16 + d) v l))
  where
    onward : (d : ℕ) → (read_hex n (w * 16 + d) l ≡ Some v → hex_digits (suc k) (w * 16 + d) ++ take n l ≡ hex_digits (suc k + n) v)
        → digit_value b ≡ Some d → read_hex n (w * 16 + d) l ≡ Some v → hex_digits k w ++ (b ∷ take n l) ≡ hex_digits (k + suc n) v
    onward d rest is e =
        let more : k + suc n ≡ suc k + n = omega arith in
        let digits : hex_digits (suc k) (w * 16 + d) ≡ hex_digits k w ++ (b ∷ [])
        = digits_more k w d (digit_small b d is) ∙ ap (λ (x : ℕ). hex_digits k w ++ (x ∷ [])) (digit_exact b d is) in
        rw more
        (sym (append_assoc (hex_digits k w) (b ∷ []) (take n l))
        ∙ ap (λ (front : List ℕ). front ++ take n l) (sym digits)
        ∙ rest e)

number_exact : (n v : ℕ) (l : List ℕ) → read_hex n 0 l ≡ Some v → take n l ≡ hex_digits n v
unfolding hex_digits
number_exact n v l e = digits_from 0 n 0 v l e ∙ rw zero-add

-- the frame of a line

value_by : (most after v next : ℕ) (h : Option ℕ) → capped most after h ≡ is_line v next → h ≡ Some v
unfolding capped
value_by most after v next (Some w) e = ap Some (same (leb w most) e)
  where
    same : (t : Bool) → cond t (is_line w after) None ≡ is_line v next → w ≡ v
    same true e = (line_same v next w after e).0
    same false e = cc
value_by most after v next None e = cc

module _ (key : List ℕ) (n most : ℕ) (s : List ℕ) (at v next : ℕ) (e : line_at key n most s at ≡ is_line v next) where
  framed_by : (t : Bool) → framed key n s at ≡ t → t ≡ true
  framed_by true q = refl
  framed_by false q =
      let wrong : None ≡ is_line v next = sym (line_unframed key n most s at q) ∙ e in
      cc

  is_framed : framed key n s at ≡ true
  is_framed = framed_by (framed key n s at) refl

  pub line_exact : drop at s ≡ line_text key n v ++ drop next s
  unfolding framed line_text
  line_exact =
      let p = (and-eq-true_iff (leb (at + (length key + n + 1)) (length s) && starts key (drop at s)) (eqb (get_or s (at + length key + n) 0) 10)).0 is_framed in
      let q = (and-eq-true_iff (leb (at + (length key + n + 1)) (length s)) (starts key (drop at s))).0 p.0 in
      let says = line_says key n most s at v next e in
      let room : at + (length key + n + 1) ≤ length s = frame_fits key n s at is_framed in
      let feed : get_or s (at + length key + n) 0 ≡ 10 = eqb-true (get_or s (at + length key + n) 0) 10 p.1 in
      let there : next ≡ suc (at + length key + n) = omega arith in
      let number : read_hex n 0 (drop (at + length key) s) ≡ Some v = value_by most _ v next _ (sym (line_framed key n most s at is_framed) ∙ e) in
      let at_end : drop (at + length key + n) s ≡ 10 ∷ drop next s
      = rw (drop-cons s (at + length key + n) 0 (omega arith), feed, there) in
      let at_digits : drop (at + length key) s ≡ hex_digits n v ++ (10 ∷ drop next s)
      = sym (take-append-drop n (drop (at + length key) s)) ∙ rw (number_exact n v _ number, drop-drop, at_end) in
      let at_key : drop at s ≡ key ++ drop (at + length key) s
      = (starts_is Decides-eqb (drop at s) key _ (starts_same key (drop at s))).0 q.1 ∙ rw drop-drop in
      rw (at_key, at_digits, append_assoc, append_assoc)
