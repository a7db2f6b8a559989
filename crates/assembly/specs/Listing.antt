-- What a session is listed as (document 02, E1; docs/MANUAL.md, "Listings"): its nine lines, and a line of A64 text for each word.
use Rattle.std.specs.Prelude.{ℕ, suc, ◌+◌, ◌-◌, cond, List, [], ◌∷◌, ◌++◌, leb, ltb, length, take, drop, Option, Some, None, Ok, Err}
use Rattle.isa.specs.Decoding.{decode_of}
use Rattle.isa.specs.declared.Form.{Form}
use Rattle.session_lines.specs.LineFormats.{lines_from}
use Rattle.session_lines.specs.Parsing.{Parsed, good as good_session, bad, parsed}
use Rattle.listing.specs.Lines.{line_of}
use Rattle.assembly.specs.Answers.{Outcome}
use Rattle.assembly.specs.SourceLines.{line_start}
use Rattle.assembly.specs.declared.Refusal.TheVariants.{Wrong, Undefined, TooLarge}

-- the line of a word's form; a word that has none is refused before
abbrev pub form_line : Option Form → List ℕ
form_line (Some f) = line_of f
form_line None = []

-- the lines of words
unfoldable pub listing_of : List ℕ → List ℕ
listing_of [] = []
listing_of (w ∷ ws) = form_line (decode_of w) ++ listing_of ws

-- how many words stand before the first undefined one: all, if there is none
unfoldable pub defined_front : List ℕ → ℕ
defined_front [] = 0
defined_front (w ∷ ws) = elim (decode_of w) [ Some f ↦ suc (defined_front ws) | None ↦ 0 ]

-- the nine numbers and the words of a good session; the line of the word with index k has the number 10 + k
unfoldable pub listed_numbers : List ℕ → List ℕ → List ℕ → Outcome
listed_numbers s front words =
    let number : ℕ = 10 + defined_front words in
    cond (ltb (defined_front words) (length words)) (Err (Undefined number (line_start s number)))
    (Ok (lines_from 0 front ++ listing_of words))

-- by what the session says; where a line is bad, so many numbers stand before it
abbrev pub listed_session : List ℕ → Parsed → Outcome
listed_session s (good_session v) = listed_numbers s (take 9 v) (drop 9 v)
listed_session s (bad number) = Err (Wrong number (number - 1) (line_start s number))

unfoldable pub listed : List ℕ → Outcome
listed s = cond (leb (length s) 1048576) (listed_session s (parsed s)) (Err TooLarge)
