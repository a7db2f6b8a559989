-- The order in which the decoder tests a word's bits, bits 31:22 first. Not a rule of its own: the private functions
-- of the decoder cite it, and proofs/Decoding proves that it finds the form of `decode_of`.
use Rattle.std.specs.Prelude.{ℕ, cond, eqb, Option, Some, None}
use Rattle.bits.specs.Fields.{bits_at}
use Rattle.isa.specs.declared.Mode.{Mode}
use Rattle.isa.specs.declared.Mode.TheVariants.{Post, Pre, Offset}
use Rattle.isa.specs.declared.AddSubOp.{AddSubOp}
use Rattle.isa.specs.declared.TwoSourceOp.TheVariants.{Subp, Subps, Irg, Gmi}
use Rattle.isa.specs.declared.TagStoreOp.{TagStoreOp}
use Rattle.isa.specs.declared.TagStoreOp.TheVariants.{Stg, Stzg, St2g, Stz2g}
use Rattle.isa.specs.declared.Form.{Form}
use Rattle.isa.specs.Decoding.{add_sub_at, two_source_at, ldg_at, tag_store_at}

-- what is found, if bit 21 is as it must be
abbrev pub if_bit21 : ℕ → ℕ → Option Form → Option Form
if_bit21 w bit found = cond (eqb (bits_at w 21 1) bit) found None

-- ADDG, SUBG: bits 15:14 are zero
abbrev pub add_sub_branch : AddSubOp → ℕ → Option Form
add_sub_branch op w = cond (eqb (bits_at w 14 2) 0) (Some (add_sub_at op w)) None

-- SUBP, IRG, GMI: by bits 15:10
abbrev pub two_source_branch : ℕ → ℕ → Option Form
two_source_branch opcode w =
    cond (eqb opcode 0) (Some (two_source_at Subp w))
    (cond (eqb opcode 4) (Some (two_source_at Irg w))
    (cond (eqb opcode 5) (Some (two_source_at Gmi w)) None))

-- SUBPS: bits 15:10 are zero
abbrev pub subps_branch : ℕ → ℕ → Option Form
subps_branch opcode w = cond (eqb opcode 0) (Some (two_source_at Subps w)) None

-- LDG has the fixed bits of STZG
abbrev pub ldg_branch : TagStoreOp → ℕ → Option Form
ldg_branch Stg w = None
ldg_branch Stzg w = Some (ldg_at w)
ldg_branch St2g w = None
ldg_branch Stz2g w = None

-- the mode of bits 11:10 that are not zero
abbrev pub mode_of : ℕ → Mode
mode_of mode = cond (eqb mode 1) Post (cond (eqb mode 3) Pre Offset)

-- LDG and the tag stores: by bits 11:10
abbrev pub mode_branch : ℕ → TagStoreOp → ℕ → Option Form
mode_branch mode op w = cond (eqb mode 0) (ldg_branch op w) (Some (tag_store_at op (mode_of mode) w))
