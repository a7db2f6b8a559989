-- What the reader of .s files answers and leaves in its buffer. No notion of document 02.
use Rattle.std.specs.Prelude.{ℕ, ◌≤◌, List, take, Result, Ok, Err}
use Rattle.assembly.specs.Answers.{Outcome}
use Rattle.assembly.specs.declared.Refusal.{Refusal}

-- its answer, with the numbers as it left them
abbrev pub read_by : Result ℕ Refusal → List ℕ → Outcome
read_by (Ok n) v = Ok (take n v)
read_by (Err why) v = Err why

abbrev pub Few : Result ℕ Refusal → Type 0
Few (Ok n) = n ≤ 265
Few (Err why) = Unit
