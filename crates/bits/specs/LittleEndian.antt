-- The bytes of a 64-bit word ("Data is little-endian", document 01, "Sizes and shape of the setup").
use Rattle.std.specs.Prelude.{ℕ, zero, suc, ◌+◌, ◌*◌, ◌/◌, ◌%◌, List, [], ◌∷◌, take}

-- the n low bytes of a number, lowest first
unfoldable pub low_bytes : ℕ → ℕ → List ℕ
low_bytes zero v = []
low_bytes (suc n) v = v % 256 ∷ low_bytes n (v / 256)

-- the number that bytes make, lowest first
unfoldable pub from_bytes : List ℕ → ℕ
from_bytes [] = 0
from_bytes (b ∷ bs) = b + 256 * from_bytes bs

-- the eight bytes of a word
abbrev pub bytes_of : ℕ → List ℕ
bytes_of v = low_bytes 8 v

-- the word that the first eight bytes of a list make
abbrev pub word_from : List ℕ → ℕ
word_from l = from_bytes (take 8 l)
