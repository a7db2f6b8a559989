-- What a session's input says (document 01, "The session program").
use Rattle.std.specs.Prelude.{ℕ, zero, suc, ◌+◌, Bool, cond, ◌&&◌, List, [], ◌∷◌, leb, length}
use Rattle.text.specs.Lines.{line_at}
use Rattle.std.specs.Prelude.{Option, None, Some}
use Rattle.text.specs.declared.Line.{Line}
use Rattle.session_lines.specs.LineFormats.{LineFormat, format_of}

-- the numbers of all lines, or the number from 1 of the first wrong, missing, unended or extra line
pub data Parsed : Type 0 where
  good : List ℕ → Parsed
  bad : ℕ → Parsed

-- one line's number before those of the others
abbrev pub before : ℕ → Parsed → Parsed
before v (good vs) = good (v ∷ vs)
before v (bad number) = bad number

-- the line of a format at a place of the text, if one stands there
abbrev pub line_of : LineFormat → List ℕ → ℕ → Option Line
line_of format s at = line_at format.key format.digits format.most s at

abbrev pub ended : List ℕ → ℕ → Bool
ended s at = leb (length s) at

-- the lines from the one with this index on, with so many still allowed
unfoldable pub parse_lines : ℕ → ℕ → List ℕ → ℕ → Parsed
-- no line is allowed any more, so one that stands here is extra
parse_lines zero i s at = cond (ended s at) (good []) (bad (i + 1))
-- behind the nine lines the text may end; otherwise a line of its format has to stand here
parse_lines (suc allowed) i s at =
    cond (leb 9 i && ended s at) (good [])
    (elim (line_of (format_of i) s at) [ Some line ↦ before line.value (parse_lines allowed (i + 1) s line.next) | None ↦ bad (i + 1) ])

-- nine lines and up to 256 words
abbrev pub parsed : List ℕ → Parsed
parsed s = parse_lines 265 0 s 0
