-- The granules that an address names (document 01, "Addresses", and code 5 of "Codes and their order").
use Rattle.std.specs.Prelude.{ℕ, zero, suc, ◌+◌, ◌-◌, ◌*◌, ◌/◌, ◌%◌, ◌^◌, Bool, true, cond, ◌&&◌, nat_le, nat_lt, Result, Ok, Err}
use Rattle.memory.specs.declared.LocateError.{LocateError}
use Rattle.memory.specs.declared.LocateError.TheVariants.{Outside}

-- a location is an address mod 2^56
abbrev pub location : ℕ → ℕ
location address = address % 2 ^ 56

-- the index of the granule at an address, where that is inside
abbrev pub index_of : ℕ → ℕ → ℕ
index_of base address = (location address - base) / 16

-- an address some bytes on: sums are mod 2^64
abbrev pub onward : ℕ → ℕ → ℕ
onward address amount = (address + amount) % 2 ^ 64

-- base to base + 16 × g
abbrev pub inside : ℕ → ℕ → ℕ → Bool
inside base g address = nat_le base (location address) && nat_lt (location address) (base + 16 * g)

-- the n granules at the address, at the address + 16, and so on, lie all inside
unfoldable pub all_inside : ℕ → ℕ → ℕ → ℕ → Bool
all_inside base g zero address = true
all_inside base g (suc n) address = inside base g address && all_inside base g n (onward address 16)

-- the index of the first of n granules, or outside if one of them is
unfoldable pub granule_of : ℕ → ℕ → ℕ → ℕ → Result ℕ LocateError
granule_of base g address n = cond (all_inside base g n address) (Ok (index_of base address)) (Err Outside)

-- 0 DONE, 5 OUTSIDE
abbrev pub granule_code : Result ℕ LocateError → ℕ
granule_code (Ok i) = 0
granule_code (Err Outside) = 5
