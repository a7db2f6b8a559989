-- LDG, STG, STZG, ST2G, STZ2G and STGP (documents 000, 002, 003 and 004; document 01, "What each word does", "Stores").
use Rattle.std.specs.Prelude.{ℕ, ◌-◌, ◌*◌, cond, List, slice_index, slice_set}
use Rattle.std.proofs.lemmas.List.Edits.{sets}
use Rattle.bits.specs.LittleEndian.{bytes_of}
use Rattle.isa.specs.declared.Mode.{Mode}
use Rattle.isa.specs.declared.TagStoreOp.{TagStoreOp}
use Rattle.isa.specs.declared.TagStoreOp.TheVariants.{Stg, Stzg, St2g, Stz2g}
use Rattle.tag.specs.PointerTags.{with_tag, tag_of}
use Rattle.memory.specs.Locations.{index_of, onward, location}
use Rattle.memory.specs.TagBytes.{tag_in}
use Rattle.memory.specs.Stores.{zero_bytes}
use Rattle.machine.specs.declared.Settings.{Settings}
use Rattle.machine.specs.State.{State, with_bytes, with_tags}
use Rattle.machine.specs.Registers.{x_or_sp, x_or_zero, to_x_or_zero}
use Rattle.instructions.specs.Accesses.{rounded_down, address_of, writeback}

-- the tag of granule i; with tag access off it is 0
abbrev pub loaded_tag : Settings → List ℕ → ℕ → ℕ
loaded_tag settings tags i = cond settings.access (tag_in (slice_index tags i)) 0

-- LDG
abbrev pub ldg : ℕ → ℕ → ℕ → State → State
ldg t n amount s =
    let address = rounded_down (onward (x_or_sp s.registers.x n) amount) in
    let tag = loaded_tag s.settings s.tags (index_of s.settings.base address) in
    to_x_or_zero t (with_tag (x_or_zero s.registers.x t) tag) s

-- the granule at an address given a tag; with tag access off, tags stay
abbrev pub store_tag : ℕ → ℕ → State → State
store_tag address tag s = cond s.settings.access (with_tags (slice_set s.tags (index_of s.settings.base address) tag) s) s

-- the data of the granule at an address zeroed
abbrev pub zero_granule : ℕ → State → State
zero_granule address s = with_bytes (sets s.bytes (16 * index_of s.settings.base address) (zero_bytes 1)) s

-- what a tag store does at its address: the data, then the tag
abbrev pub store_tags : TagStoreOp → ℕ → ℕ → State → State
store_tags Stg address tag s = store_tag address tag s
store_tags Stzg address tag s = store_tag address tag (zero_granule address s)
store_tags St2g address tag s = store_tag (onward address 16) tag (store_tag address tag s)
store_tags Stz2g address tag s =
    store_tag (onward address 16) tag (store_tag address tag (zero_granule (onward address 16) (zero_granule address s)))

-- STG, STZG, ST2G, STZ2G: the tag is that of Rt's old value
abbrev pub tag_store : TagStoreOp → Mode → ℕ → ℕ → ℕ → State → State
tag_store op mode t n amount s =
    let rn = x_or_sp s.registers.x n in
    let address = address_of mode rn amount in
    let tag = tag_of (x_or_sp s.registers.x t) in
    writeback mode n (onward rn amount) (store_tags op address tag s)

-- a word stored at an address
abbrev pub store_word : ℕ → ℕ → State → State
store_word address v s = with_bytes (sets s.bytes (location address - s.settings.base) (bytes_of v)) s

-- Rt, then Rt2, then the tag, which is that of the address computed
abbrev pub store_pair : ℕ → ℕ → ℕ → State → State
store_pair address low high s = store_tag address (tag_of address) (store_word (onward address 8) high (store_word address low s))

-- STGP
abbrev pub stgp : Mode → ℕ → ℕ → ℕ → ℕ → State → State
stgp mode t t2 n amount s =
    let rn = x_or_sp s.registers.x n in
    let address = address_of mode rn amount in
    let low = x_or_zero s.registers.x t in
    let high = x_or_zero s.registers.x t2 in
    writeback mode n (onward rn amount) (store_pair address low high s)
