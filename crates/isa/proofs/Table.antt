-- The fixed bits of each form in parts: bits 31:22, and what stands below them. Assumes nothing.
use Prim.Native.Nat.{ℕ, ◌+◌, ◌*◌, ◌/◌, ◌^◌, ◌<◌}
use mathlib.Core.Path.{◌≡◌, refl}
use lib.Dec.{lit<}
use Rattle.isa.specs.declared.Mode.{Mode}
use Rattle.isa.specs.declared.Mode.TheVariants.{Post, Pre, Offset}
use Rattle.isa.specs.declared.AddSubOp.{AddSubOp}
use Rattle.isa.specs.declared.AddSubOp.TheVariants.{Addg, Subg}
use Rattle.isa.specs.declared.TwoSourceOp.{TwoSourceOp}
use Rattle.isa.specs.declared.TwoSourceOp.TheVariants.{Subp, Subps, Irg, Gmi}
use Rattle.isa.specs.declared.TagStoreOp.{TagStoreOp}
use Rattle.isa.specs.declared.TagStoreOp.TheVariants.{Stg, Stzg, St2g, Stz2g}
use Rattle.isa.specs.Words.{add_sub_bits, two_source_bits, tag_store_bits, mode_bits, stgp_bits}

abbrev pub add_sub_top : AddSubOp → ℕ
add_sub_top op = add_sub_bits op / 2 ^ 22

abbrev pub two_source_top : TwoSourceOp → ℕ
two_source_top op = two_source_bits op / 2 ^ 22

-- bits 15:10 of an operation on two source registers
abbrev pub opcode : TwoSourceOp → ℕ
opcode Subp = 0
opcode Subps = 0
opcode Irg = 4
opcode Gmi = 5

abbrev pub tag_store_top : TagStoreOp → ℕ
tag_store_top op = tag_store_bits op / 2 ^ 22

abbrev pub stgp_top : Mode → ℕ
stgp_top mode = stgp_bits mode / 2 ^ 22

pub add_sub_parts : (op : AddSubOp) → (add_sub_bits op ≡ add_sub_top op * 2 ^ 22) × (add_sub_top op < 1024)
add_sub_parts Addg = (refl, lit< tt)
add_sub_parts Subg = (refl, lit< tt)

pub two_source_parts : (op : TwoSourceOp)
    → (two_source_bits op ≡ two_source_top op * 2 ^ 22 + opcode op * 2 ^ 10) × (two_source_top op < 1024) × (opcode op < 64)
two_source_parts Subp = (refl, lit< tt, lit< tt)
two_source_parts Subps = (refl, lit< tt, lit< tt)
two_source_parts Irg = (refl, lit< tt, lit< tt)
two_source_parts Gmi = (refl, lit< tt, lit< tt)

pub tag_store_parts : (op : TagStoreOp) → (tag_store_bits op ≡ tag_store_top op * 2 ^ 22 + 2 ^ 21) × (tag_store_top op < 1024)
tag_store_parts Stg = (refl, lit< tt)
tag_store_parts Stzg = (refl, lit< tt)
tag_store_parts St2g = (refl, lit< tt)
tag_store_parts Stz2g = (refl, lit< tt)

pub mode_small : (mode : Mode) → mode_bits mode < 4
mode_small Post = lit< tt
mode_small Pre = lit< tt
mode_small Offset = lit< tt

pub stgp_parts : (mode : Mode) → (stgp_bits mode ≡ stgp_top mode * 2 ^ 22) × (stgp_top mode < 1024)
stgp_parts Post = (refl, lit< tt)
stgp_parts Pre = (refl, lit< tt)
stgp_parts Offset = (refl, lit< tt)
