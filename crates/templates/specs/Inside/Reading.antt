-- How the fields of a text are read by a template. Reading is not strict: that a line is spelled as it must be is seen by writing it
-- anew. No notion of document 02.
use Rattle.std.specs.Prelude.{ℕ, ◌-◌, ◌+◌, ◌*◌, ◌^◌, Bool, true, false, cond, List, [], ◌∷◌, ◌≡◌, ltb, eqb, get_or, drop, Option, Some, None}
use Rattle.templates.specs.Templates.{piece_of, register_of}
use Rattle.templates.specs.declared.Fields.{Fields}
use Rattle.templates.specs.declared.Piece.{Piece}
use Rattle.templates.specs.declared.Piece.TheVariants.{Literal, SpRegister, ZeroRegister, Amount, TagOffset}

-- a number, and the text behind it
pub record Got : Type 0 where
  pub value : ℕ
  pub rest : List ℕ

abbrev pub got : ℕ → List ℕ → Got
got v s = record { value = v; rest = s }

abbrev pub is_digit : ℕ → Bool
is_digit b = cond (ltb b 48) false (ltb b 58)

-- the digits that a text begins with, behind digits that spell v, while there is room for one more in 64 bits
unfoldable pub read_decimal : ℕ → List ℕ → Got
read_decimal v [] = got v []
read_decimal v (b ∷ s) =
    cond (ltb v (10 ^ 18)) (cond (is_digit b) (read_decimal (v * 10 + (b - 48)) s) (got v (b ∷ s))) (got v (b ∷ s))

-- s for sp (115), xz for xzr (122), else a byte and a number
unfoldable pub read_register : List ℕ → Got
read_register s =
    cond (eqb (get_or s 0 0) 115) (got 31 (drop 2 s))
    (cond (eqb (get_or s 1 0) 122) (got 31 (drop 3 s)) (read_decimal 0 (drop 1 s)))

-- the amount below zero whose digits spell v
abbrev pub negative : ℕ → ℕ
negative v = cond (eqb v 0) 0 (2 ^ 64 - v)

abbrev pub negated : Got → Got
negated g = got (negative g.value) g.rest

unfoldable pub read_amount : List ℕ → Got
read_amount s = cond (eqb (get_or s 0 0) 45) (negated (read_decimal 0 (drop 1 s))) (read_decimal 0 s)

-- a field of a kind
unfoldable pub read_as : Piece → List ℕ → Got
read_as Literal s = got 0 s
read_as SpRegister s = read_register s
read_as ZeroRegister s = read_register s
read_as Amount s = read_amount s
read_as TagOffset s = read_decimal 0 s

-- a register's new value if the letter is one of the two that name it, else its old one
abbrev pub if_named : ℕ → ℕ → ℕ → ℕ → ℕ → ℕ
if_named l one other v old = cond (eqb l one) v (cond (eqb l other) v old)

unfoldable pub with_register : ℕ → ℕ → Fields → Fields
with_register l v f =
    record {
      first = if_named l 65 88 v f.first;
      second = if_named l 66 89 v f.second;
      third = if_named l 67 90 v f.third;
      amount = f.amount;
      offset = f.offset;
    }

-- a field set by its letter
unfoldable pub set_as : Piece → ℕ → ℕ → Fields → Fields
set_as Literal l v f = f
set_as SpRegister l v f = with_register l v f
set_as ZeroRegister l v f = with_register l v f
set_as Amount l v f = record { first = f.first; second = f.second; third = f.third; amount = v; offset = f.offset }
set_as TagOffset l v f = record { first = f.first; second = f.second; third = f.third; amount = f.amount; offset = v }

-- what a letter stands for
unfoldable pub field_as : Piece → ℕ → Fields → ℕ
field_as Literal l f = 0
field_as SpRegister l f = register_of l f
field_as ZeroRegister l f = register_of l f
field_as Amount l f = f.amount
field_as TagOffset l f = f.offset

abbrev pub is_literal : Piece → Bool
is_literal Literal = true
is_literal SpRegister = false
is_literal ZeroRegister = false
is_literal Amount = false
is_literal TagOffset = false

-- a text read by a template, the fields so far being f
unfoldable pub read_by : List ℕ → List ℕ → Fields → Option Fields
read_by [] s f = Some f
read_by (l ∷ t) s f =
    cond (is_literal (piece_of l))
    (cond (eqb l (get_or s 0 0)) (read_by t (drop 1 s) f) None)
    (read_by t (read_as (piece_of l) s).rest (set_as (piece_of l) l (read_as (piece_of l) s).value f))

-- what the code answers of a field: its number, and the text behind it
pub record IsRead (value : ℕ) (rest : List ℕ) (g : Got) : Type 0 where
  pub value_is : value ≡ g.value
  pub rest_is : rest ≡ g.rest
