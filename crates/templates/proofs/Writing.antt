-- Texts put one behind another. Assumes nothing.
use mathlib.Core.Path.{◌≡◌, refl, ap, sym, ◌∙◌}
use mathlib.Core.Bool.{Bool, true, false, cond}
use mathlib.Core.List.{List, [], ◌∷◌, ◌++◌}
use Prim.Native.Nat.{ℕ, ◌+◌, ◌-◌, ◌^◌, ◌≤◌, ◌<◌}
use native.Mathlib.Numerals.{add-one}
use native.Mathlib.Omega.{arith}
use lib.ListN.{length, get_or, set, drop, length-append}
use lib.Dec.{ltb}
use lib.Seq.{sets, drop-cons}
use Rattle.text.proofs.Writing.{after}
use Rattle.templates.specs.FieldText.{amount_text, register_text}
use Rattle.templates.specs.Inside.Putting.{Puts}
use Rattle.templates.specs.Templates.{piece_of, register_of, text_as, filled}
use Rattle.templates.specs.declared.Fields.{Fields}
use Rattle.templates.specs.declared.Piece.{Piece}
use Rattle.templates.specs.declared.Piece.TheVariants.{Literal, SpRegister, ZeroRegister, Amount, TagOffset}
use Rattle.templates.proofs.Decimals.{decimal_short}

-- a text, and a byte behind it
pub byte_behind : (l : List ℕ) (at g : ℕ) (t u : List ℕ) (next : ℕ) (last : List ℕ) → u ≡ t ++ (g ∷ []) → Puts l at t next last → Puts l at u (next + 1) (set last next g)
byte_behind l at g t u next last e f =
    (rw (e, length-append) (omega (arith, f.0)), after l at t (length t) last next (g ∷ []) refl f.1 f.0 ∙ ap (sets l at) (sym e))

-- no piece is longer than 21 bytes
shorter : (b : Bool) (x y : List ℕ) (n : ℕ) → length x ≤ n → length y ≤ n → length (cond b x y) ≤ n
shorter true x y n h k = h
shorter false x y n h k = k

amount_short : (v : ℕ) → length (amount_text v) ≤ 21
unfolding amount_text
amount_short v = shorter (ltb v (2 ^ 63)) _ _ 21 (omega (arith, decimal_short v)) (omega (arith, decimal_short (2 ^ 64 - v)))

register_short : (z : Bool) (r : ℕ) → length (register_text z r) ≤ 21
unfolding register_text
register_short z r = shorter (ltb r 31) _ _ 21 (omega (arith, decimal_short r)) (shorter z _ _ 21 (omega arith) (omega arith))

pub piece_short : (p : Piece) (l : ℕ) (f : Fields) → length (text_as p l f) ≤ 21
unfolding text_as
piece_short Literal l f = omega arith
piece_short SpRegister l f = register_short false (register_of l f)
piece_short ZeroRegister l f = register_short true (register_of l f)
piece_short Amount l f = amount_short f.amount
piece_short TagOffset l f = omega (arith, decimal_short f.offset)

-- a template, piece by piece
pub filled_cons : (t : List ℕ) (f : Fields) (i : ℕ) → i < length t
    → filled (drop i t) f ≡ text_as (piece_of (get_or t i 0)) (get_or t i 0) f ++ filled (drop (i + 1) t) f
unfolding filled
filled_cons t f i h = rw (add-one, drop-cons t i 0 h)

pub filled_nil : (f : Fields) → filled [] f ≡ []
unfolding filled
filled_nil f = refl

pub line_turn : (l : List ℕ) (p : ℕ) (t : List ℕ) (f : Fields) (i b q : ℕ) (last : List ℕ) → i < length t → b ≡ get_or t i 0
    → Puts l p (text_as (piece_of b) b f) q last
    → (p + length (filled (drop i t) f) ≡ q + length (filled (drop (i + 1) t) f)) × (sets l p (filled (drop i t) f) ≡ sets last q (filled (drop (i + 1) t) f))
line_turn l p t f i b q last h e k =
    let x : List ℕ = text_as (piece_of b) b f in
    let y : List ℕ = filled (drop (i + 1) t) f in
    let whole : filled (drop i t) f ≡ x ++ y = filled_cons t f i h ∙ ap (λ (m : ℕ). text_as (piece_of m) m f ++ y) (sym e) in (
      omega (arith, k.0, ap length whole ∙ length-append x y),
      ap (sets l p) whole ∙ sym (after l p x (length x) last q y refl k.1 k.0),
    )
