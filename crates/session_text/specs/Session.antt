-- The session program: the bytes that it prints for the bytes of its input (document 01, "The session program").
use Rattle.std.specs.Prelude.{ℕ, ◌≤◌, ◌<◌, List, ◌≡◌, length, take}
use Rattle.execution.specs.Calls.{Returned}
use Rattle.execution.specs.Simulation.{Simulation}
use Rattle.session_lines.specs.Parsing.{Parsed, good, bad, parsed}
use Rattle.session_text.specs.Run.{ran_of}
use Rattle.session_text.specs.Printing.{bad_text, report_text}

-- what is printed of a run: its count and code, and the registers and tags after it
abbrev pub ran_text : Returned Simulation → List ℕ
ran_text ran = report_text ran.answer.count ran.answer.code ran.after.state.registers ran.after.state.tags

abbrev pub text_for : Parsed → List ℕ
text_for (good v) = ran_text (ran_of v)
text_for (bad number) = bad_text number

unfoldable pub answer_text : List ℕ → List ℕ
answer_text s = text_for (parsed s)

-- an input that may stand behind what was read, of which there is room for 3,733 bytes: if n bytes were read and these are fewer,
-- they are the input; otherwise the input begins with what the room holds
pub record ReadOf (room : List ℕ) (n : ℕ) (input : List ℕ) : Type 0 where
  pub whole : n < 3733 → input ≡ take n room
  pub begun : 3733 ≤ n → take 3733 input ≡ room

-- the two facts that lending `&out[..n]` asks, so that a caller needs no proof file
abbrev pub Lendable : ℕ → List ℕ → Type 0
Lendable n xs = (n ≤ length xs) × (n ≡ length (take n xs))
