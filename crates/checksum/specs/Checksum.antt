-- The checksum of docs/MANUAL.md, "The benchmark" and "Replaying a script". No rule of document 01.
use Rattle.std.specs.Prelude.{ℕ, ◌+◌, ◌*◌, ◌%◌, ◌^◌, ◌≡◌, List, [], ◌∷◌}

-- a checksum with one number more
unfoldable pub with_number : ℕ → ℕ → ℕ
with_number sum v = (sum * 31 + v) % 2 ^ 64

-- a checksum with the numbers of a list more, in their order
unfoldable pub with_numbers : ℕ → List ℕ → ℕ
with_numbers sum [] = sum
with_numbers sum (v ∷ vs) = with_numbers (with_number sum v) vs

-- what a conversion gives is the number of what is converted: of a byte or a word it is that byte or word
abbrev pub IsNumberOf : {T : Type 0} → (T → ℕ → Type 0) → (T → ℕ) → Type 0
IsNumberOf {T} converts number = (x : T) (v : ℕ) → converts x v → v ≡ number x
