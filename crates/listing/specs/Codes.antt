-- The codes of listings, by name (document 02, E1; UNDEFINED as in document 01, "Codes and their order").
use Rattle.std.specs.Prelude.{ℕ, Result, Ok, Err}
use Rattle.listing.specs.declared.ListError.{ListError}
use Rattle.listing.specs.declared.ListError.TheVariants.{Undefined, NoRoom}
use Rattle.listing.specs.declared.ReadError.{ReadError}
use Rattle.listing.specs.declared.ReadError.TheVariants.{BadLine}

abbrev pub DONE : ℕ
DONE = 0

abbrev pub UNDEFINED : ℕ
UNDEFINED = 2

abbrev pub NOROOM : ℕ
NOROOM = 10

abbrev pub BADLINE : ℕ
BADLINE = 11

-- the code of a refusal to list
abbrev pub list_error_code : ListError → ℕ
list_error_code Undefined = UNDEFINED
list_error_code NoRoom = NOROOM

-- the code of what listing came to
abbrev pub list_code : {A : Type 0} → Result A ListError → ℕ
list_code (Ok x) = DONE
list_code (Err why) = list_error_code why

-- the code of a refusal to read
abbrev pub read_error_code : ReadError → ℕ
read_error_code BadLine = BADLINE

-- the code of what was read
abbrev pub read_code : Result ℕ ReadError → ℕ
read_code (Ok w) = DONE
read_code (Err why) = read_error_code why

-- with BADLINE the word returned is 0
abbrev pub read_word : Result ℕ ReadError → ℕ
read_word (Ok w) = w
read_word (Err why) = 0
