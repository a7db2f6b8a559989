-- The lines of a text, and which of them are passed over (document 02, E1; docs/MANUAL.md, "Listings").
use Rattle.std.specs.Prelude.{ℕ, zero, suc, ◌+◌, ◌-◌, Bool, cond, ◌&&◌, ◌||◌, List, [], ◌∷◌, eqb, length, get_or, take}
use Rattle.text.specs.Ascii.{ascii}
use Rattle.text.specs.Lines.{starts}

-- a byte in front of the lines behind it
abbrev pub in_front : ℕ → List (List ℕ) → List (List ℕ)
in_front b [] = (b ∷ []) ∷ []
in_front b (line ∷ lines) = (b ∷ line) ∷ lines

-- the lines of a text, each with its line feed (10); what stands behind the last line feed is an unended line
unfoldable pub lines_of : List ℕ → List (List ℕ)
lines_of [] = []
lines_of (b ∷ s) = cond (eqb b 10) ((b ∷ []) ∷ lines_of s) (in_front b (lines_of s))

-- the first line of a text, and the empty one of an empty text
unfoldable pub first_line : List ℕ → List ℕ
first_line [] = []
first_line (b ∷ s) = b ∷ cond (eqb b 10) [] (first_line s)

-- how many bytes the first n lines have
unfoldable pub bytes_of : ℕ → List (List ℕ) → ℕ
bytes_of zero lines = 0
bytes_of (suc n) [] = 0
bytes_of (suc n) (line ∷ lines) = length line + bytes_of n lines

-- the place of the line with this number from 1
abbrev pub line_start : List ℕ → ℕ → ℕ
line_start s number = bytes_of (number - 1) (lines_of s)

-- whether a line has its line feed
unfoldable pub is_ended : List ℕ → Bool
is_ended line = eqb (get_or line (length line - 1) 0) 10

-- a line without its line feed
unfoldable pub without_feed : List ℕ → List ℕ
without_feed line = cond (is_ended line) (take (length line - 1) line) line

-- empty lines and lines that begin with // are passed over, if they are ended
unfoldable pub passed_over : List ℕ → Bool
passed_over line = is_ended line && (starts (ascii "\n") line || starts (ascii "//") line)
