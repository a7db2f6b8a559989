-- The memory that LDG and the stores access, and when an access is refused (document 01, "Addresses", "Stores" and "Codes and their
-- order").
use Rattle.std.specs.Prelude.{ℕ, ◌-◌, ◌%◌, Bool, true, false, not, ◌&&◌, List, [], ◌∷◌, ◌==◌}
use Rattle.isa.specs.declared.Mode.{Mode}
use Rattle.isa.specs.declared.Mode.TheVariants.{Post, Pre, Offset}
use Rattle.isa.specs.declared.TagStoreOp.{TagStoreOp}
use Rattle.isa.specs.declared.TagStoreOp.TheVariants.{Stg, Stzg, St2g, Stz2g}
use Rattle.isa.specs.declared.Form.{Form}
use Rattle.isa.specs.declared.Form.TheVariants.{AddSub, TwoSource, Ldg, TagStore, Stgp}
use Rattle.memory.specs.Locations.{onward, all_inside}
use Rattle.machine.specs.declared.Code.TheVariants.{SpAlign, Align, Outside}
use Rattle.machine.specs.Codes.{Check, check}
use Rattle.machine.specs.State.{State}
use Rattle.machine.specs.Registers.{x_or_sp, to_x_or_sp}

-- post-index uses the base register as it stands; `rn` is what the base register holds
abbrev pub address_of : Mode → ℕ → ℕ → ℕ
address_of Post rn amount = rn
address_of Pre rn amount = onward rn amount
address_of Offset rn amount = onward rn amount

-- LDG first rounds its address down to a granule
abbrev pub rounded_down : ℕ → ℕ
rounded_down address = address - address % 16

-- ST2G and STZ2G name the granules at address and address + 16; the others name one
abbrev pub granules_named : TagStoreOp → ℕ
granules_named Stg = 1
granules_named Stzg = 1
granules_named St2g = 2
granules_named Stz2g = 2

-- writeback comes last
abbrev pub writeback : Mode → ℕ → ℕ → State → State
writeback Post n v s = to_x_or_sp n v s
writeback Pre n v s = to_x_or_sp n v s
writeback Offset n v s = s

-- the register that is written back: 32, none, with an offset
abbrev pub writeback_to : Mode → ℕ → ℕ
writeback_to Post n = n
writeback_to Pre n = n
writeback_to Offset n = 32

-- what a form accesses: the base register n and what it holds, the address, the number of which the address must be a multiple, how many
-- granules it names from there on, and whether it stores
pub data Access : Type 0 where
  no_access : Access
  access : (n rn address multiple granules : ℕ) (stores : Bool) → Access

abbrev pub access_of : Form → State → Access
access_of (AddSub op d n amount offset) s = no_access
access_of (TwoSource op d n m) s = no_access
access_of (Ldg t n amount) s = let rn = x_or_sp s.registers.x n in access n rn (rounded_down (onward rn amount)) 1 1 false
access_of (TagStore op mode t n amount) s =
    let rn = x_or_sp s.registers.x n in access n rn (address_of mode rn amount) 16 (granules_named op) true
access_of (Stgp mode t t2 n amount) s = let rn = x_or_sp s.registers.x n in access n rn (address_of mode rn amount) 16 1 true

-- SPALIGN: LDG or a store has Rn = SP and SP isn't a multiple of 16
abbrev pub sp_misaligned : Access → Bool
sp_misaligned no_access = false
sp_misaligned (access n rn address multiple granules stores) = n == 31 && not (rn % 16 == 0)

-- ALIGN: a store's address isn't a multiple of 16
abbrev pub misaligned : Access → Bool
misaligned no_access = false
misaligned (access n rn address multiple granules stores) = not (address % multiple == 0)

-- OUTSIDE: a named granule lies outside base to base + 16 × g, tag access on or off
abbrev pub outside : ℕ → ℕ → Access → Bool
outside base g no_access = false
outside base g (access n rn address multiple granules stores) = not (all_inside base g granules address)

-- the refusals of an access, in the order of their numbers
abbrev pub access_checks : ℕ → ℕ → Access → List Check
access_checks base g a = check SpAlign (sp_misaligned a) ∷ check Align (misaligned a) ∷ check Outside (outside base g a) ∷ []
