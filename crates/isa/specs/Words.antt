-- The words of the 22 forms (document 01, "Words"): the rows of its table.
use Rattle.std.specs.Prelude.{ℕ, ◌+◌, ◌*◌, ◌^◌}
use Rattle.bits.specs.Fields.{bits_at}
use Rattle.isa.specs.declared.Mode.{Mode}
use Rattle.isa.specs.declared.Mode.TheVariants.{Post, Pre, Offset}
use Rattle.isa.specs.declared.AddSubOp.{AddSubOp}
use Rattle.isa.specs.declared.AddSubOp.TheVariants.{Addg, Subg}
use Rattle.isa.specs.declared.TwoSourceOp.{TwoSourceOp}
use Rattle.isa.specs.declared.TwoSourceOp.TheVariants.{Subp, Subps, Irg, Gmi}
use Rattle.isa.specs.declared.TagStoreOp.{TagStoreOp}
use Rattle.isa.specs.declared.TagStoreOp.TheVariants.{Stg, Stzg, St2g, Stz2g}
use Rattle.isa.specs.declared.Form.{Form}
use Rattle.isa.specs.declared.Form.TheVariants.{AddSub, TwoSource, Ldg, TagStore, Stgp}

-- fixed bits

abbrev pub add_sub_bits : AddSubOp → ℕ
add_sub_bits Addg = 0x91800000
add_sub_bits Subg = 0xD1800000

abbrev pub two_source_bits : TwoSourceOp → ℕ
two_source_bits Subp = 0x9AC00000
two_source_bits Subps = 0xBAC00000
two_source_bits Irg = 0x9AC01000
two_source_bits Gmi = 0x9AC01400

abbrev pub ldg_bits : ℕ
ldg_bits = 0xD9600000

abbrev pub tag_store_bits : TagStoreOp → ℕ
tag_store_bits Stg = 0xD9200000
tag_store_bits Stzg = 0xD9600000
tag_store_bits St2g = 0xD9A00000
tag_store_bits Stz2g = 0xD9E00000

-- bits 11:10 of a tag store
abbrev pub mode_bits : Mode → ℕ
mode_bits Post = 1
mode_bits Pre = 3
mode_bits Offset = 2

abbrev pub stgp_bits : Mode → ℕ
stgp_bits Post = 0x68800000
stgp_bits Pre = 0x69800000
stgp_bits Offset = 0x69000000

-- the granules that an amount of bytes counts, in a field of so many bits
abbrev pub granule_count : ℕ → ℕ → ℕ
granule_count width amount = bits_at amount 4 width

-- the word of a form: its fixed bits and its fields, each in its place
abbrev pub word_of : Form → ℕ
word_of (AddSub op d n amount offset) = add_sub_bits op + granule_count 6 amount * 2 ^ 16 + offset * 2 ^ 10 + n * 2 ^ 5 + d
word_of (TwoSource op d n m) = two_source_bits op + m * 2 ^ 16 + n * 2 ^ 5 + d
word_of (Ldg t n amount) = ldg_bits + granule_count 9 amount * 2 ^ 12 + n * 2 ^ 5 + t
word_of (TagStore op mode t n amount) = tag_store_bits op + granule_count 9 amount * 2 ^ 12 + mode_bits mode * 2 ^ 10 + n * 2 ^ 5 + t
word_of (Stgp mode t t2 n amount) = stgp_bits mode + granule_count 7 amount * 2 ^ 15 + t2 * 2 ^ 10 + n * 2 ^ 5 + t
