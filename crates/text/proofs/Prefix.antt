-- A line is judged by its own bytes: what stands behind them plays no part. Assumes nothing.
use mathlib.Core.Path.{◌≡◌, refl, sym, ap, ◌∙◌}
use Rattle.std.proofs.lemmas.Bool.Decides.{nat_tests}
use Rattle.std.proofs.lemmas.Slice.{between_is}
use Rattle.std.proofs.lemmas.List.{take-take}
use Rattle.std.specs.Cmp.Lexicographic.{pointwise}
use Rattle.text.proofs.Reading.{starts_same}
use mathlib.Core.List.{List, [], ◌∷◌}
use Prim.Native.Nat.{ℕ, zero, suc, ◌+◌, ◌-◌, ◌*◌, ◌≤◌}
use native.Mathlib.Omega.{arith}
use lib.ListN.{length, get_or, take, drop, length-take}
use lib.Dec.{leb, eqb}
use lib.Seq.{get_or-take}
use Rattle.text.specs.Hex.{digit_value, read_hex}
use Rattle.text.specs.Lines.{starts, framed, line_at}
use Rattle.std.proofs.Common.{Option, None, Some}
use Rattle.std.specs.Option.{option_and_then}

starts_take : (key l : List ℕ) (j : ℕ) → length key ≤ j → starts key (take j l) ≡ starts key l
starts_take key l j h =
    starts_same key (take j l) ∙ ap (pointwise eqb key) (take-take (length key) j l h) ∙ sym (starts_same key l)

read_take : (n v : ℕ) (l : List ℕ) (j : ℕ) → n ≤ j → read_hex n v (take j l) ≡ read_hex n v l
unfolding read_hex
read_take zero v l j h = refl
read_take (suc n) v l zero h = absurd (omega arith)
read_take (suc n) v [] (suc j) h = refl
read_take (suc n) v (b ∷ l) (suc j) h = onward (λ (w : ℕ). read_take n w l j (omega arith)) (digit_value b)
  where
    onward : ((w : ℕ) → read_hex n w (take j l) ≡ read_hex n w l) → (x : Option ℕ)
        → option_and_then (λ (d : ℕ). read_hex n (v * 16 + d) (take j l)) x ≡ option_and_then (λ (d : ℕ). read_hex n (v * 16 + d) l) x
    onward same None = refl
    onward same (Some d) = same (v * 16 + d)

drop_within : (a m : ℕ) (l : List ℕ) → drop a (take m l) ≡ take (m - a) (drop a l)
drop_within a m l = sym (between_is l a m)

fits_within : (a m : ℕ) (l : List ℕ) → a ≤ m → leb a (length (take m l)) ≡ leb a (length l)
fits_within a m l h = let k = length-take m l in grind (arith, nat_tests)

frame_take : (key : List ℕ) (n : ℕ) (s : List ℕ) (at m : ℕ) → at + (length key + n + 1) ≤ m → framed key n (take m s) at ≡ framed key n s at
unfolding framed
frame_take key n s at m h =
    let fits : leb (at + (length key + n + 1)) (length (take m s)) ≡ leb (at + (length key + n + 1)) (length s) = fits_within _ m s h in
    let key-same : starts key (drop at (take m s)) ≡ starts key (drop at s)
    = ap (starts key) (drop_within at m s) ∙ starts_take key (drop at s) (m - at) (omega arith) in
    let end_same : get_or (take m s) (at + length key + n) 0 ≡ get_or s (at + length key + n) 0 = get_or-take m s (at + length key + n) 0 (omega arith) in
    rw (fits, key-same, end_same)

pub line_take : (key : List ℕ) (n most : ℕ) (s : List ℕ) (at m : ℕ) → at + (length key + n + 1) ≤ m → line_at key n most (take m s) at ≡ line_at key n most s at
unfolding line_at
line_take key n most s at m h =
    let number : read_hex n 0 (drop (at + length key) (take m s)) ≡ read_hex n 0 (drop (at + length key) s)
    = ap (read_hex n 0) (drop_within (at + length key) m s) ∙ read_take n 0 (drop (at + length key) s) (m - (at + length key)) (omega arith) in
    rw (frame_take key n s at m h, number)
