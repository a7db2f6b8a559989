-- Where an access finds its granules, as the code answers it.
use Rattle.std.specs.Prelude.{ℕ, true, false, cond, Result, Ok, Err}
use Rattle.memory.specs.Locations.{index_of, onward}
use Rattle.machine.specs.declared.Code.{Code}
use Rattle.machine.specs.Codes.{lowest, is_done}
use Rattle.instructions.specs.Accesses.{Access, access, access_checks, rounded_down}

-- the refusal of an access, DONE if it is accepted
abbrev pub access_code : ℕ → ℕ → Access → Code
access_code base g a = lowest (access_checks base g a)

-- the first granule of an access that has code 0, or the refusal
abbrev pub placed_by : Code → ℕ → Result ℕ Code
placed_by code first = cond (is_done code) (Ok first) (Err code)

-- of a store
abbrev pub store_place : ℕ → ℕ → ℕ → ℕ → ℕ → ℕ → Result ℕ Code
store_place base g n rn address granules = placed_by (access_code base g (access n rn address 16 granules true)) (index_of base address)

-- of LDG
abbrev pub load_place : ℕ → ℕ → ℕ → ℕ → ℕ → Result ℕ Code
load_place base g n rn amount =
    let address = rounded_down (onward rn amount) in
    placed_by (access_code base g (access n rn address 1 1 false)) (index_of base address)
