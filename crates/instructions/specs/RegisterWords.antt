-- ADDG, SUBG, SUBP, SUBPS, GMI and IRG (document 01, "What each word does"; document 001 for ADDG).
use Rattle.std.specs.Prelude.{ℕ, ◌+◌, ◌-◌, ◌*◌, ◌%◌, ◌^◌, cond, ◌==◌, bit_or}
use Rattle.bits.specs.Fields.{bits_at, with_bits}
use Rattle.isa.specs.declared.AddSubOp.{AddSubOp}
use Rattle.isa.specs.declared.AddSubOp.TheVariants.{Addg, Subg}
use Rattle.tag.specs.PointerTags.{tag_of, with_tag}
use Rattle.tag.specs.TagChoice.{chosen}
use Rattle.tag.specs.RandomBits.{bits_drawn, seed_drawn}
use Rattle.machine.specs.declared.Settings.{Settings}
use Rattle.machine.specs.State.{State, with_nzcv, with_status, with_rgsr, with_seed}
use Rattle.machine.specs.Registers.{x_or_sp, x_or_zero, to_x_or_sp, to_x_or_zero}
use Rattle.machine.specs.declared.Status.{Status}

-- the amount added or subtracted mod 2^64
abbrev pub moved : AddSubOp → ℕ → ℕ → ℕ
moved Addg v amount = (v + amount) % 2 ^ 64
moved Subg v amount = (v + (2 ^ 64 - amount)) % 2 ^ 64

-- with tag access off the tag is 0
abbrev pub chosen_or0 : Settings → ℕ → ℕ → ℕ → ℕ
chosen_or0 settings start offset mask = cond settings.access (chosen start offset mask) 0

-- the start tag is that of the operand before the sum
abbrev pub add_sub_result : Settings → AddSubOp → ℕ → ℕ → ℕ → ℕ
add_sub_result settings op operand amount offset =
    with_tag (moved op operand amount) (chosen_or0 settings (tag_of operand) offset settings.exclude)

-- ADDG, SUBG
abbrev pub add_sub : AddSubOp → ℕ → ℕ → ℕ → ℕ → State → State
add_sub op d n amount offset s =
    let operand = x_or_sp s.registers.x n in
    to_x_or_sp d (add_sub_result s.settings op operand amount offset) s

-- sign-extended from bit 55
abbrev pub extended : ℕ → ℕ
extended v = bits_at v 0 56 + bits_at v 55 1 * (2 ^ 64 - 2 ^ 56)

-- Arm's AddWithCarry: the sum, and NZCV

abbrev pub sum_with_carry : ℕ → ℕ → ℕ → ℕ
sum_with_carry a b carry = (a + b + carry) % 2 ^ 64

-- a signed value with 2^63 added, since the numbers here have no sign
abbrev pub signed_plus : ℕ → ℕ
signed_plus v = (v + 2 ^ 63) % 2 ^ 64

-- N, Z; C if the sum is not the whole sum; V if its signed value is not the sum of the signed values
abbrev pub flags_of : ℕ → ℕ → ℕ → ℕ
flags_of a b carry =
    let sum = sum_with_carry a b carry in
    bits_at sum 63 1 * 8
    + cond (sum == 0) 1 0 * 4
    + cond (sum == a + b + carry) 0 1 * 2
    + cond (signed_plus sum + 2 ^ 63 == signed_plus a + signed_plus b + carry) 0 1

-- a difference is the sum with the complement and a carry
abbrev pub complement : ℕ → ℕ
complement v = 2 ^ 64 - 1 - v

abbrev pub difference : ℕ → ℕ → ℕ
difference a b = sum_with_carry (extended a) (complement (extended b)) 1

abbrev pub difference_flags : ℕ → ℕ → ℕ
difference_flags a b = flags_of (extended a) (complement (extended b)) 1

-- SUBP: SP in Rn and Rm
abbrev pub subp : ℕ → ℕ → ℕ → State → State
subp d n m s =
    let operand1 = x_or_sp s.registers.x n in
    let operand2 = x_or_sp s.registers.x m in
    to_x_or_zero d (difference operand1 operand2) s

-- SUBPS
abbrev pub subps : ℕ → ℕ → ℕ → State → State
subps d n m s =
    let operand1 = x_or_sp s.registers.x n in
    let operand2 = x_or_sp s.registers.x m in
    with_status (with_nzcv (difference_flags operand1 operand2) s.registers.status) (subp d n m s)

-- GMI: Rm with the bit numbered by Rn's tag set
abbrev pub with_tag_bit : ℕ → ℕ → ℕ
with_tag_bit mask operand = with_bits mask (tag_of operand) 1 1

abbrev pub gmi : ℕ → ℕ → ℕ → State → State
gmi d n m s =
    let operand = x_or_sp s.registers.x n in
    let mask = x_or_zero s.registers.x m in
    to_x_or_zero d (with_tag_bit mask operand) s

-- Exclude or the low 16 bits of Rm
abbrev pub mask_of : Settings → ℕ → ℕ
mask_of settings m = bit_or settings.exclude (bits_at m 0 16)

-- four random bits are the offset, RGSR's tag the start
abbrev pub random_tag : Status → ℕ → ℕ
random_tag status mask = chosen status.rgsr (bits_drawn 4 status.seed) mask

-- the chosen tag becomes RGSR's tag; the bits are drawn when all tags are masked too
abbrev pub after_draw : Status → ℕ → Status
after_draw status mask = with_rgsr (random_tag status mask) (with_seed (seed_drawn 4 status.seed) status)

-- with tag access off the tag is 0 and RGSR is untouched

abbrev pub irg_tag : Settings → Status → ℕ → ℕ
irg_tag settings status mask = cond settings.access (random_tag status mask) 0

abbrev pub irg_status : Settings → Status → ℕ → Status
irg_status settings status mask = cond settings.access (after_draw status mask) status

-- IRG
abbrev pub irg : ℕ → ℕ → ℕ → State → State
irg d n m s =
    let operand = x_or_sp s.registers.x n in
    let mask = mask_of s.settings (x_or_zero s.registers.x m) in
    let tag = irg_tag s.settings s.registers.status mask in
    to_x_or_sp d (with_tag operand tag) (with_status (irg_status s.settings s.registers.status mask) s)
