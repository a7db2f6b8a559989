-- The text of an instruction's fields (document 02, E1): decimal amounts, and registers as Arm names them.
use Rattle.std.specs.Prelude.{ℕ, zero, suc, ◌+◌, ◌-◌, ◌/◌, ◌%◌, ◌^◌, Bool, cond, List, [], ◌∷◌, ◌++◌, ltb}
use Rattle.text.specs.Ascii.{ascii}

-- a number of at most n decimal digits, with no zero in front; '0' is 48
unfoldable pub decimal_in : ℕ → ℕ → List ℕ
decimal_in zero v = []
decimal_in (suc n) v = cond (ltb v 10) ((48 + v) ∷ []) (decimal_in n (v / 10) ++ ((48 + v % 10) ∷ []))

-- a number of 64 bits, which has at most 20 digits
unfoldable pub decimal : ℕ → List ℕ
decimal v = decimal_in 20 v

-- an amount of bytes modulo 2 ^ 64, with its sign
unfoldable pub amount_text : ℕ → List ℕ
amount_text v = cond (ltb v (2 ^ 63)) (decimal v) (ascii "-" ++ decimal (2 ^ 64 - v))

-- a register: x and its number, and 31 as its place has it, the zero register or SP
unfoldable pub register_text : Bool → ℕ → List ℕ
register_text drops_writes r = cond (ltb r 31) (ascii "x" ++ decimal r) (cond drops_writes (ascii "xzr") (ascii "sp"))
