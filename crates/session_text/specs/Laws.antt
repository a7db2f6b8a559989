-- Laws of the definitions (document 01, "The session program"): each is stated here, and proved in proofs/ under its name
-- (prefix_decides, what_was_read_is_an_input, nothing_is_cut). Which sessions are read, and which line is the wrong one, say the laws
-- of session_lines (specs/Laws), whose `parsed` is what is answered here.
use Rattle.std.specs.Prelude.{ℕ, ◌^◌, ◌<◌, List, ◌≡◌, length, take}
use Rattle.machine.specs.Codes.{code_number}
use Rattle.execution.specs.Calls.{Returned}
use Rattle.execution.specs.Simulation.{Simulation}
use Rattle.session_lines.specs.Parsing.{good, parsed}
use Rattle.session_text.specs.Run.{ran_of}
use Rattle.session_text.specs.Session.{ReadOf, answer_text}

-- The longest good session has 3,732 bytes. Of a longer input 3,733 bytes decide what is printed, so the program reads no more.
unfoldable pub PrefixDecides : Type 0
PrefixDecides = (s : List ℕ) → answer_text (take 3733 s) ≡ answer_text s

-- Whatever was read, an input may stand behind it: just what was read.
unfoldable pub WhatWasReadIsAnInput : Type 0
WhatWasReadIsAnInput = (room : List ℕ) (n : ℕ) → length room ≡ 3733 → ReadOf room n (take n room)

-- what is printed of a run fits its digits
pub record Printable (ran : Returned Simulation) : Type 0 where
  pub count : ran.answer.count < 16 ^ 4
  pub code : code_number ran.answer.code < 16
  pub nzcv : ran.after.state.registers.status.nzcv < 16

-- No digit is cut off.
unfoldable pub NothingIsCut : Type 0
NothingIsCut = (s v : List ℕ) → parsed s ≡ good v → Printable (ran_of v)
