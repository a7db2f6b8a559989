-- What the C front end is answered (document 01, "The reachable part": "The C front end calls two functions on plain numbers").
use Rattle.std.specs.Prelude.{ℕ, cond, ◌||◌, ltb}
use Rattle.isa.specs.Decoding.{decoded_code, decode_of}
use Rattle.tag.specs.TagChoice.{chosen}

-- tag choice: 16 (no tag) if start or offset exceeds 15 or the mask exceeds 65,535
unfoldable pub choice_answer : ℕ → ℕ → ℕ → ℕ
choice_answer start offset mask = cond (ltb 15 start || ltb 15 offset || ltb 65535 mask) 16 (chosen start offset mask)

-- the code 0 or 2 of a word
abbrev pub code_answer : ℕ → ℕ
code_answer word = decoded_code (decode_of word)
