-- The formats of a session's lines (document 01, "The session program").
use Rattle.std.specs.Prelude.{ℕ, ◌+◌, ◌≤◌, List, [], ◌∷◌, ◌++◌, get_or, length}
use Rattle.text.specs.Ascii.{ascii}
use Rattle.text.specs.Lines.{line_text}

-- the format of a line: its key with the '=', how many hex digits its number has, and the largest number
pub record LineFormat : Type 0 where
  pub key : List ℕ
  pub digits : ℕ
  pub most : ℕ

-- the line of a number, as text
abbrev pub line_for : LineFormat → ℕ → List ℕ
line_for format v = line_text format.key format.digits v

-- any number of 16 digits
abbrev pub long_format : List ℕ → LineFormat
long_format key = record { key = key; digits = 16; most = 0xffff_ffff_ffff_ffff }

-- the lines of registers, read and printed

abbrev pub x0_format : LineFormat
x0_format = long_format (ascii "x0=")

abbrev pub x1_format : LineFormat
x1_format = long_format (ascii "x1=")

abbrev pub x2_format : LineFormat
x2_format = long_format (ascii "x2=")

abbrev pub sp_format : LineFormat
sp_format = long_format (ascii "sp=")

abbrev pub word_format : LineFormat
word_format = record { key = ascii "word="; digits = 8; most = 0xffff_ffff }

-- the nine lines at the front, in their order
unfoldable pub front_formats : List LineFormat
front_formats =
    long_format (ascii "base=")
    ∷ record { key = ascii "granules="; digits = 4; most = 0x400 }
    ∷ record { key = ascii "access="; digits = 1; most = 1 }
    ∷ record { key = ascii "exclude="; digits = 4; most = 0xffff }
    ∷ record { key = ascii "seed="; digits = 4; most = 0xffff }
    ∷ x0_format ∷ x1_format ∷ x2_format ∷ sp_format ∷ []

-- the format of the line with index i, from 0: the nine, then words
unfoldable pub format_of : ℕ → LineFormat
unfolding front_formats
format_of i = get_or front_formats i word_format

-- the numbers of lines, the first of which has index i: each is at most the largest of its format
abbrev pub InRange : ℕ → List ℕ → Type 0
InRange i v = (j : ℕ) → get_or v j 0 ≤ (format_of (i + j)).most

-- a session as text: a line for each number, the first with index i
unfoldable pub lines_from : ℕ → List ℕ → List ℕ
lines_from i [] = []
lines_from i (v ∷ vs) = line_for (format_of i) v ++ lines_from (i + 1) vs

-- the numbers of a good session: those of the nine lines and up to 256 words, each at most the largest of its format
pub record GoodNumbers (v : List ℕ) : Type 0 where
  pub nine : 9 ≤ length v
  pub most : length v ≤ 265
  pub range : InRange 0 v
