-- What assembling and listing come to, and what is answered (document 02, E1; docs/MANUAL.md, "Listings").
use Rattle.std.specs.Prelude.{ℕ, ◌≤◌, List, ◌≡◌, length, take, Result, Ok, Err}
use Rattle.std.proofs.lemmas.List.Edits.{sets}
use Rattle.assembly.specs.declared.Refusal.{Refusal}

-- numbers or a text, or why there are none
abbrev pub Outcome : Type 0
Outcome = Result (List ℕ) Refusal

-- what a call answers, and what it leaves in the buffer
pub record Answered : Type 0 where
  pub answer : Result ℕ Refusal
  pub bytes : List ℕ

abbrev pub answered : Result ℕ Refusal → List ℕ → Answered
answered answer bytes = record { answer = answer; bytes = bytes }

-- the length of the text, which is put at the start of the buffer; a refusal leaves the buffer alone
unfoldable pub answer_for : Outcome → List ℕ → Answered
answer_for (Ok text) out = answered (Ok (length text)) (sets out 0 text)
answer_for (Err why) out = answered (Err why) out

-- the two facts that lending `&out[..n]` asks, so that a caller needs no proof file
abbrev pub LendableText : Result ℕ Refusal → List ℕ → Type 0
LendableText (Ok n) out = (n ≤ length out) × (n ≡ length (take n out))
LendableText (Err why) out = Unit
