-- What the listing writer leaves (document 02, E1).
use Rattle.std.specs.Prelude.{ℕ, ◌+◌, cond, List, [], ◌∷◌, length, Some, None, Result, Ok, Err}
use Rattle.std.proofs.lemmas.List.Edits.{sets}
use Rattle.text.specs.Lines.{room_for}
use Rattle.isa.specs.Decoding.{decode_of}
use Rattle.listing.specs.Codes.{DONE, UNDEFINED, NOROOM, list_error_code, list_code}
use Rattle.listing.specs.Lines.{line_of}
use Rattle.listing.specs.declared.ListError.{ListError}
use Rattle.listing.specs.declared.Listing.{Listing}

-- what a call leaves: the bytes of the buffer, the place of the next line, and the code
pub record Written : Type 0 where
  pub bytes : List ℕ
  pub at : ℕ
  pub code : ℕ

abbrev pub written : List ℕ → ℕ → ℕ → Written
written bytes at code = record { bytes = bytes; at = at; code = code }

-- what a call at a place answers and leaves: a refusal keeps the place
abbrev pub left : List ℕ → ℕ → Result ℕ ListError → Written
left bytes at (Ok next) = written bytes next DONE
left bytes at (Err why) = written bytes at (list_error_code why)

-- what calls on a listing have left
abbrev pub so_far : Listing → Written
so_far w = written w.out.now w.at (list_code w.last)

-- a line at a place: NOROOM exactly if it is longer than the room left there
unfoldable pub put_at : List ℕ → ℕ → List ℕ → Written
put_at out at line = cond (room_for out at line) (written (sets out at line) (at + length line) DONE) (written out at NOROOM)

-- the line of a word at a place; an undefined word is judged first
unfoldable pub listed_at : List ℕ → ℕ → ℕ → Written
listed_at out at word = elim (decode_of word) [ Some f ↦ put_at out at (line_of f) | None ↦ written out at UNDEFINED ]

-- words by calls in a row: the place is remembered between lines, and kept by a refusal
unfoldable pub listed_words : Written → List ℕ → Written
listed_words before [] = before
listed_words before (word ∷ words) = listed_words (listed_at before.bytes before.at word) words
