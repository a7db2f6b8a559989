-- When a record is malformed (document 01, "History", its last sentence).
use Rattle.std.specs.Prelude.{ℕ, ◌+◌, Bool, not, ◌&&◌, ◌||◌, List, eqb, ltb, get_or}
use Rattle.bits.specs.Fields.{bits_at}
use Rattle.history.specs.declared.Entry.{Entry}
use Rattle.history.specs.Records.{tag_at, data_at, entry_in}

abbrev pub not_zero : ℕ → Bool
not_zero n = not (eqb n 0)

-- a number out of its range: the others fill their places
abbrev pub out_of_range : Entry → Bool
out_of_range e = ltb 32 e.register || ltb 2 e.granules

-- bits 7:6, 15:11 and 63:56 of word 0, and word 7, are in no use
abbrev pub gap_not_zero : List ℕ → Bool
gap_not_zero r =
    not_zero (bits_at (get_or r 0 0) 6 2) || (not_zero (bits_at (get_or r 0 0) 11 5) || (not_zero (bits_at (get_or r 0 0) 56 8) || not_zero (get_or r 7 0)))

-- with no register its value is not in use
abbrev pub value_not_zero : Entry → Bool
value_not_zero e = eqb e.register 32 && not_zero e.value

-- with no granules: both tags and the index; with one: the second tag
abbrev pub tags_not_zero : Entry → Bool
tags_not_zero e =
    (eqb e.granules 0 && (not_zero (tag_at e 0) || (not_zero (tag_at e 1) || not_zero e.first)))
    || (eqb e.granules 1 && not_zero (tag_at e 1))

-- with no data saved: all of the data; with one granule: the second half
abbrev pub data_not_zero : Entry → Bool
data_not_zero e =
    (not e.saved && (not_zero (data_at e 0) || (not_zero (data_at e 1) || (not_zero (data_at e 2) || not_zero (data_at e 3)))))
    || (eqb e.granules 1 && (not_zero (data_at e 2) || not_zero (data_at e 3)))

-- data saved with no granules
abbrev pub data_of_none : Entry → Bool
data_of_none e = e.saved && eqb e.granules 0

-- granules beyond G
abbrev pub beyond : ℕ → Entry → Bool
beyond g e = ltb g (e.first + e.granules)

-- the rule on eight words, where there are g granules
unfoldable pub malformed : ℕ → List ℕ → Bool
malformed g r =
    out_of_range (entry_in r)
    || (gap_not_zero r
    || (value_not_zero (entry_in r)
    || (tags_not_zero (entry_in r) || (data_not_zero (entry_in r) || (data_of_none (entry_in r) || beyond g (entry_in r))))))
