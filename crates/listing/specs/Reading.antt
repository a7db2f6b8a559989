-- What a text is read to (document 02, E1): the word whose line it is, and no other spelling.
use Rattle.std.specs.Prelude.{ℕ, zero, suc, ◌^◌, Bool, false, cond, ◌&&◌, List, eqb, length, Some, None, Result, Ok, Err}
use Rattle.text.specs.Lines.{starts}
use Rattle.isa.specs.Decoding.{decode_of}
use Rattle.listing.specs.Lines.{line_of}
use Rattle.listing.specs.declared.ReadError.{ReadError}
use Rattle.listing.specs.declared.ReadError.TheVariants.{BadLine}

-- whether two texts are the same
unfoldable pub same_text : List ℕ → List ℕ → Bool
same_text a b = eqb (length a) (length b) && starts a b

-- whether a text is the line of a word
unfoldable pub is_line_of : List ℕ → ℕ → Bool
is_line_of s w = elim (decode_of w) [ Some f ↦ same_text (line_of f) s | None ↦ false ]

-- the word below n whose line a text is, or BADLINE
unfoldable pub read_below : ℕ → List ℕ → Result ℕ ReadError
read_below zero s = Err BadLine
read_below (suc w) s = cond (is_line_of s w) (Ok w) (read_below w s)

-- of all words of 32 bits
unfoldable pub read_of : List ℕ → Result ℕ ReadError
read_of s = read_below (2 ^ 32) s
