-- Numbers of a fixed count of lower-case hex digits, read and written (document 01, "The session program"; docs/MANUAL.md).
use Rattle.std.specs.Prelude.{ℕ, zero, suc, ◌+◌, ◌-◌, ◌*◌, ◌/◌, ◌%◌, cond, ◌&&◌, List, [], ◌∷◌, ◌++◌, map, ltb, leb}
use Rattle.std.specs.Prelude.{Option, None, Some}
use Rattle.std.specs.Option.{option_and_then, option_map_or}

-- the number of a digit, '0' to '9' (48 to 57) and 'a' to 'f' (97 to 102); no other byte has one
unfoldable pub digit_value : ℕ → Option ℕ
digit_value b =
    cond (leb 48 b && leb b 57) (Some (b - 48)) (cond (leb 97 b && leb b 102) (Some (b - 87)) None)

-- the digit of a number below 16
unfoldable pub digit_of : ℕ → ℕ
digit_of v = cond (ltb v 10) (48 + v) (87 + v)

-- the number that the list's first n bytes spell, behind digits that spell v
unfoldable pub read_hex : ℕ → ℕ → List ℕ → Option ℕ
read_hex zero v l = Some v
read_hex (suc n) v [] = None
read_hex (suc n) v (b ∷ l) = option_and_then (λ (d : ℕ). read_hex n (v * 16 + d) l) (digit_value b)

-- the last n hex digits of v, the most significant first
unfoldable pub hex_digits : ℕ → ℕ → List ℕ
hex_digits zero v = []
hex_digits (suc n) v = hex_digits n (v / 16) ++ (digit_of (v % 16) ∷ [])

-- the digit of the low four bits of each byte
unfoldable pub digits_text : List ℕ → List ℕ
digits_text t = map (λ (b : ℕ). digit_of (b % 16)) t

-- the low four bits of each byte
unfoldable pub low_bits : List ℕ → List ℕ
low_bits t = map (λ (b : ℕ). b % 16) t

-- the numbers of the digits that a list begins with, up to the first byte that is none
unfoldable pub digits_in : List ℕ → List ℕ
digits_in [] = []
digits_in (b ∷ l) = option_map_or (λ (d : ℕ). d ∷ digits_in l) (digit_value b) []
