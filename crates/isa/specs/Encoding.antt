-- From a form to its word, and when a field is refused (document 01, "Words"; codes: "Codes and their order").
use Rattle.std.specs.Prelude.{ℕ, ◌-◌, ◌%◌, ◌^◌, Bool, cond, ◌&&◌, ◌||◌, leb, ltb, eqb, Option, Some, None}
use Rattle.isa.specs.declared.Form.{Form}
use Rattle.isa.specs.declared.Form.TheVariants.{AddSub, TwoSource, Ldg, TagStore, Stgp}
use Rattle.isa.specs.Words.{word_of}

-- a register is 0 to 31
abbrev pub register : ℕ → Bool
register r = leb r 31

-- an amount of bytes modulo 2 ^ 64, from `low` below zero to `high`, that is a whole number of granules
abbrev pub amount_in : ℕ → ℕ → ℕ → Bool
amount_in low high amount = eqb (amount % 16) 0 && (leb amount high || (ltb amount (2 ^ 64) && leb (2 ^ 64 - low) amount))

-- each field of the form is in its range
abbrev pub fields_fit : Form → Bool
fields_fit (AddSub op d n amount offset) = register d && register n && leb offset 15 && amount_in 0 1008 amount
fields_fit (TwoSource op d n m) = register d && register n && register m
fields_fit (Ldg t n amount) = register t && register n && amount_in 4096 4080 amount
fields_fit (TagStore op mode t n amount) = register t && register n && amount_in 4096 4080 amount
fields_fit (Stgp mode t t2 n amount) = register t && register t2 && register n && amount_in 1024 1008 amount

-- the word of a form whose fields are in range
unfoldable pub encode_of : Form → Option ℕ
encode_of f = cond (fields_fit f) (Some (word_of f)) None

-- the code of that answer: 0 DONE, 8 FIELD for none
abbrev pub encoded_code : Option ℕ → ℕ
encoded_code (Some w) = 0
encoded_code None = 8

-- with FIELD the word returned is 0
abbrev pub encoded_word : Option ℕ → ℕ
encoded_word (Some w) = w
encoded_word None = 0
