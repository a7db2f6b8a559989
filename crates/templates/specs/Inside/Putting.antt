-- How a text is put at a place. No notion of document 02.
use Rattle.std.specs.Prelude.{ℕ, ◌+◌, List, ◌≡◌, length}
use Rattle.std.proofs.lemmas.List.Edits.{sets}

-- what a function that puts a text at a place answers, the place behind it, and leaves
abbrev pub Puts : List ℕ → ℕ → List ℕ → ℕ → List ℕ → Type 0
Puts before at text next after = (next ≡ at + length text) × (after ≡ sets before at text)
