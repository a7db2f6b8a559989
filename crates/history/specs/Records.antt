-- The eight words of a record (document 01, "History", second paragraph).
use Rattle.std.specs.Prelude.{ℕ, ◌+◌, ◌*◌, ◌^◌, cond, List, [], ◌∷◌, eqb, get_or}
use Rattle.bits.specs.Fields.{bits_at}
use Rattle.history.specs.declared.Entry.{Entry}

-- an old tag byte, and a word of old data
abbrev pub tag_at : Entry → ℕ → ℕ
tag_at e i = get_or e.tags i 0

abbrev pub data_at : Entry → ℕ → ℕ
data_at e i = get_or e.«data» i 0

-- register at 5:0, granules at 9:8, data saved at 10, old tag bytes at 23:16 and 31:24, old NZCV 35:32, old RGSR tag 39:36,
-- old seed 55:40, all else zero
abbrev pub word0 : Entry → ℕ
word0 e =
    e.register + e.granules * 2 ^ 8 + cond e.saved 1 0 * 2 ^ 10 + tag_at e 0 * 2 ^ 16 + tag_at e 1 * 2 ^ 24 + e.status.nzcv * 2 ^ 32
    + e.status.rgsr * 2 ^ 36 + e.status.seed * 2 ^ 40

-- word 1: the register's old value; word 2: first granule's index; words 3 to 6: old data; word 7: zero
unfoldable pub words_of : Entry → List ℕ
words_of e = word0 e ∷ e.value ∷ e.first ∷ data_at e 0 ∷ data_at e 1 ∷ data_at e 2 ∷ data_at e 3 ∷ 0 ∷ []

-- what the places of eight words hold
unfoldable pub entry_in : List ℕ → Entry
entry_in r =
    record {
      register = bits_at (get_or r 0 0) 0 6;
      granules = bits_at (get_or r 0 0) 8 2;
      saved = eqb (bits_at (get_or r 0 0) 10 1) 1;
      tags = bits_at (get_or r 0 0) 16 8 ∷ bits_at (get_or r 0 0) 24 8 ∷ [];
      status =
          record {
            nzcv = bits_at (get_or r 0 0) 32 4;
            rgsr = bits_at (get_or r 0 0) 36 4;
            seed = bits_at (get_or r 0 0) 40 16;
          };
      value = get_or r 1 0;
      first = get_or r 2 0;
      «data» = get_or r 3 0 ∷ get_or r 4 0 ∷ get_or r 5 0 ∷ get_or r 6 0 ∷ [];
    }
