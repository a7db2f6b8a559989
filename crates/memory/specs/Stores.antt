-- What stores write from a granule on (document 01, "Stores"; old data and old tag bytes: "History").
use Rattle.std.specs.Prelude.{ℕ, ◌*◌, List, [], ◌∷◌, ◌++◌, take, replicate}
use Rattle.bits.specs.LittleEndian.{bytes_of}

-- the data of so many granules, zeroed
abbrev pub zero_bytes : ℕ → List ℕ
zero_bytes granules = replicate (16 * granules) 0

-- the data of a granule: two words
abbrev pub pair_bytes : ℕ → ℕ → List ℕ
pair_bytes low high = bytes_of low ++ bytes_of high

-- the data of n granules, at most two, from the words saved
abbrev pub saved_bytes : ℕ → ℕ → ℕ → ℕ → ℕ → List ℕ
saved_bytes n a b c d = take (16 * n) (pair_bytes a b ++ pair_bytes c d)

-- the tag bytes of n granules, at most two, from those saved
abbrev pub saved_tags : ℕ → ℕ → ℕ → List ℕ
saved_tags n first second = take n (first ∷ second ∷ [])
