-- The codes and their order (document 01, "Codes and their order").
use Rattle.std.specs.Prelude.{ℕ, ◌<◌, ◌≤◌, ◌≡◌, Bool, true, cond, List, [], ◌∷◌, ◌⊎◌, eqb, Result, Ok, Err}
use Rattle.machine.specs.declared.Code.{Code}
use Rattle.machine.specs.declared.Code.TheVariants.{Done, Setup, Undefined, SpAlign, Align, Outside, NoHistory, BadRecord, Field}

abbrev pub code_number : Code → ℕ
code_number Done = 0
code_number Setup = 1
code_number Undefined = 2
code_number SpAlign = 3
code_number Align = 4
code_number Outside = 5
code_number NoHistory = 6
code_number BadRecord = 7
code_number Field = 8

abbrev pub is_done : Code → Bool
is_done code = eqb (code_number code) 0

-- the code of an answer that may be a refusal
abbrev pub code_in : {A : Type 0} → Result A Code → Code
code_in (Ok a) = Done
code_in (Err code) = code

-- a refusal, and whether it applies
pub record Check : Type 0 where
  pub code : Code
  pub applies : Bool

abbrev pub check : Code → Bool → Check
check code applies = record { code = code; applies = applies }

-- the first code that applies, DONE if none does: of checks in the order of their numbers, the lowest
unfoldable pub lowest : List Check → Code
lowest [] = Done
lowest (c ∷ cs) = cond c.applies c.code (lowest cs)

-- checks in the order of their numbers, all above n
abbrev pub Rising : ℕ → List Check → Type 0
Rising n [] = Unit
Rising n (c ∷ cs) = (n < code_number c.code) × Rising (code_number c.code) cs

abbrev pub Among : Check → List Check → Type 0
Among c [] = ⊥
Among c (d ∷ cs) = (c ≡ d) ⊎ Among c cs

-- "The lowest code that applies is given", DONE if none does. Proved in proofs/LowestCode of every list in that order.
pub record LowestGiven (cs : List Check) (code : Code) : Type 0 where
  pub least : (c : Check) → Among c cs → c.applies ≡ true → (0 < code_number code) × (code_number code ≤ code_number c.code)
  pub one : 0 < code_number code → (c : Check) × Among c cs × (c.applies ≡ true) × (code ≡ c.code)

unfoldable pub LowestCode : Type 0
LowestCode = (cs : List Check) → Rising 0 cs → LowestGiven cs (lowest cs)
