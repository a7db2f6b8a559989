-- What the parser answers and leaves in its buffers. No notion of document 01.
use Rattle.std.specs.Prelude.{ℕ, ◌≤◌, List, take, Result, Ok, Err}
use Rattle.session_lines.specs.declared.BadLine.{BadLine}
use Rattle.session_lines.specs.Parsing.{Parsed, good, bad}

-- the parser's answer, with the numbers as it left them
abbrev pub parsed_by : Result ℕ BadLine → List ℕ → Parsed
parsed_by (Ok n) v = good (take n v)
parsed_by (Err line) v = bad line.number

-- all of the nine lines and up to 256 words, or one of these lines or the one behind them
abbrev pub Counted : Result ℕ BadLine → Type 0
Counted (Ok n) = (9 ≤ n) × (n ≤ 265)
Counted (Err line) = line.number ≤ 266
