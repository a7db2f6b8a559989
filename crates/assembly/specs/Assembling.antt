-- What a.s file says (document 02, E1; docs/MANUAL.md, "Listings"): the nine lines of a session's start, then listing lines.
use Rattle.std.specs.Prelude.{ℕ, ◌+◌, cond, List, [], ◌∷◌, eqb, leb, ltb, length, Option, Some, None, Result, Ok, Err}
use Rattle.text.specs.declared.Line.{Line}
use Rattle.session_lines.specs.LineFormats.{format_of, lines_from}
use Rattle.session_lines.specs.Parsing.{line_of}
use Rattle.listing.specs.Reading.{read_of}
use Rattle.listing.specs.declared.ReadError.{ReadError}
use Rattle.assembly.specs.Answers.{Outcome}
use Rattle.assembly.specs.SourceLines.{lines_of, passed_over}
use Rattle.assembly.specs.declared.reader.Content.{Content}
use Rattle.assembly.specs.declared.reader.Content.TheVariants.{Passed, Number, Unexpected}
use Rattle.assembly.specs.declared.Refusal.TheVariants.{Wrong, TooLarge}

-- a line of a session's start is just that line
abbrev pub front_content : ℕ → Option Line → Content
front_content size (Some line) = cond (eqb line.next size) (Number line.value) Unexpected
front_content size None = Unexpected

abbrev pub word_content : Result ℕ ReadError → Content
word_content (Ok w) = Number w
word_content (Err why) = Unexpected

-- what a line says where i numbers were read: the nine lines, then up to 256 listing lines
unfoldable pub content_at : ℕ → List ℕ → Content
content_at i line =
    cond (passed_over line) Passed
    (cond (ltb i 9) (front_content (length line) (line_of (format_of i) line 0))
    (cond (ltb i 265) (word_content (read_of line)) Unexpected))

-- one line's number before those of the others
abbrev pub before : ℕ → Outcome → Outcome
before v (Ok vs) = Ok (v ∷ vs)
before v (Err why) = Err why

-- the lines from the one with this number on, where i numbers were read; it starts at place at
unfoldable pub numbers_from : ℕ → ℕ → ℕ → List (List ℕ) → Outcome
-- the text ends: one of the nine is missing, or all is read
numbers_from number i at [] = cond (leb 9 i) (Ok []) (Err (Wrong number i at))
numbers_from number i at (line ∷ lines) =
    let next : ℕ = at + length line in
    elim (content_at i line) [
      | Passed ↦ numbers_from (number + 1) i next lines
      | Number v ↦ before v (numbers_from (number + 1) (i + 1) next lines)
      | Unexpected ↦ Err (Wrong number i at)
    ]

-- the numbers of the nine lines and the words
unfoldable pub assembled : List ℕ → Outcome
assembled s = cond (leb (length s) 1048576) (numbers_from 1 0 0 (lines_of s)) (Err TooLarge)

-- their session
abbrev pub session_of : Outcome → Outcome
session_of (Ok v) = Ok (lines_from 0 v)
session_of (Err why) = Err why
