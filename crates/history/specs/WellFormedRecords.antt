-- Well-formed records (document 01, "History", second paragraph), built from what they hold, and that their words are exactly
-- those that specs/BadRecords accepts. Proved in proofs/Exact.
use Rattle.std.specs.Prelude.{ℕ, ◌+◌, ◌^◌, ◌≤◌, ◌<◌, ◌≡◌, Bool, true, false, List, [], ◌∷◌, length, get_or}
use Rattle.machine.specs.declared.Status.{Status}
use Rattle.history.specs.declared.Entry.{Entry}
use Rattle.history.specs.Records.{words_of}
use Rattle.history.specs.BadRecords.{malformed}

-- a register (0 to 30, 31 SP) with its old value, or none
pub data OldRegister : Type 0 where
  register : (n value : ℕ) → OldRegister
  no_register : OldRegister

-- no granules, one or two, with the first one's index and their old tag bytes, and with their old data or without
pub data OldGranules : Type 0 where
  no_granules : OldGranules
  one : (first tag : ℕ) → OldGranules
  one_saved : (first tag a b : ℕ) → OldGranules
  two : (first tag second : ℕ) → OldGranules
  two_saved : (first tag second a b c d : ℕ) → OldGranules

-- what a record holds
pub record Held : Type 0 where
  pub register : OldRegister
  pub granules : OldGranules
  pub status : Status

-- each number fits its place, and the granules are inside, where there are g

abbrev pub RegisterFits : OldRegister → Type 0
RegisterFits (register n value) = (n ≤ 31) × (value < 2 ^ 64)
RegisterFits no_register = Unit

abbrev pub GranulesFit : ℕ → OldGranules → Type 0
GranulesFit g no_granules = Unit
GranulesFit g (one first tag) = (first + 1 ≤ g) × (tag < 2 ^ 8)
GranulesFit g (one_saved first tag a b) = (first + 1 ≤ g) × (tag < 2 ^ 8) × (a < 2 ^ 64) × (b < 2 ^ 64)
GranulesFit g (two first tag second) = (first + 2 ≤ g) × (tag < 2 ^ 8) × (second < 2 ^ 8)
GranulesFit g (two_saved first tag second a b c d) =
    (first + 2 ≤ g) × (tag < 2 ^ 8) × (second < 2 ^ 8) × (a < 2 ^ 64) × (b < 2 ^ 64) × (c < 2 ^ 64) × (d < 2 ^ 64)

pub record WellFormed (g : ℕ) (h : Held) : Type 0 where
  pub register : RegisterFits h.register
  pub granules : GranulesFit g h.granules
  pub nzcv : h.status.nzcv ≤ 15
  pub rgsr : h.status.rgsr ≤ 15
  pub seed : h.status.seed < 2 ^ 16

-- its places: the register's number and old value, the status, the number of granules, whether data is saved, the tag bytes,
-- the index and the data; what is not in use is zero

abbrev pub register_number : OldRegister → ℕ
register_number (register n value) = n
register_number no_register = 32

abbrev pub register_value : OldRegister → ℕ
register_value (register n value) = value
register_value no_register = 0

abbrev pub places_of : ℕ → ℕ → Status → ℕ → Bool → ℕ → List ℕ → List ℕ → Entry
places_of n value status granules saved first tags words =
    record {
      register = n;
      granules = granules;
      saved = saved;
      tags = tags;
      status = status;
      value = value;
      first = first;
      «data» = words;
    }

abbrev pub with_granules : ℕ → ℕ → Status → OldGranules → Entry
with_granules n value status no_granules = places_of n value status 0 false 0 (0 ∷ 0 ∷ []) (0 ∷ 0 ∷ 0 ∷ 0 ∷ [])
with_granules n value status (one first tag) = places_of n value status 1 false first (tag ∷ 0 ∷ []) (0 ∷ 0 ∷ 0 ∷ 0 ∷ [])
with_granules n value status (one_saved first tag a b) = places_of n value status 1 true first (tag ∷ 0 ∷ []) (a ∷ b ∷ 0 ∷ 0 ∷ [])
with_granules n value status (two first tag second) = places_of n value status 2 false first (tag ∷ second ∷ []) (0 ∷ 0 ∷ 0 ∷ 0 ∷ [])
with_granules n value status (two_saved first tag second a b c d) =
    places_of n value status 2 true first (tag ∷ second ∷ []) (a ∷ b ∷ c ∷ d ∷ [])

abbrev pub entry_held : Held → Entry
entry_held h = with_granules (register_number h.register) (register_value h.register) h.status h.granules

-- its eight words
unfoldable pub record_words : Held → List ℕ
record_words h = words_of (entry_held h)

-- any eight words
pub record EightWords (r : List ℕ) : Type 0 where
  pub eight : length r ≡ 8
  pub small : (i : ℕ) → get_or r i 0 < 2 ^ 64

pub record ExactRecords : Type 0 where
  -- the words of a well-formed record are accepted
  pub accepts : (g : ℕ) (h : Held) → WellFormed g h → malformed g (record_words h) ≡ false
  -- and no other eight words are
  pub only : (g : ℕ) (r : List ℕ) → EightWords r → malformed g r ≡ false → (h : Held) × WellFormed g h × (r ≡ record_words h)
