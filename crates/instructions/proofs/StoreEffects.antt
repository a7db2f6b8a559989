-- What the tag stores and STGP leave of the bytes and tags, as one run of each. Assumes nothing.
use Rattle.std.proofs.Common.{◌≡◌, ℕ, ◌+◌, ◌*◌, ◌%◌, Bool, true, false, cond, List, length, set, sym, refl, ap, ◌∙◌, add-one, arith}
use lib.Seq.{sets}
use Rattle.bits.specs.LittleEndian.{bytes_of}
use Rattle.bits.proofs.LittleEndian.{low_bytes_length}
use Rattle.isa.specs.declared.Mode.{Mode}
use Rattle.isa.specs.declared.Mode.TheVariants.{Post, Pre, Offset}
use Rattle.isa.specs.declared.TagStoreOp.{TagStoreOp}
use Rattle.isa.specs.declared.TagStoreOp.TheVariants.{Stg, Stzg, St2g, Stz2g}
use Rattle.tag.specs.PointerTags.{tag_of}
use Rattle.memory.specs.Locations.{index_of, onward, all_inside}
use Rattle.memory.specs.Stores.{zero_bytes, pair_bytes}
use Rattle.memory.proofs.Sizes.{Sized}
use Rattle.memory.proofs.Locations.{all_first, next_index, first_word, second_word}
use Rattle.memory.proofs.Lists.{sets_append}
use Rattle.machine.specs.State.{State, with_x, with_bytes, with_tags}
use Rattle.machine.specs.Registers.{written}
use Rattle.instructions.specs.Accesses.{writeback, writeback_to, granules_named}
use Rattle.instructions.specs.MemoryWords.{store_tag, store_tags, store_pair}
use Rattle.instructions.specs.Inside.Effects.{Change, kept, pair, new_bytes, new_tags, zeroing}

pub written_back : (mode : Mode) (n v : ℕ) (s : State) → writeback mode n v s ≡ with_x (written s.registers.x (writeback_to mode n) v) s
written_back Post n v s = refl
written_back Pre n v s = refl
written_back Offset n v s = refl

-- what a store of so many granules leaves, from granule i on
abbrev pub stored : Change → ℕ → ℕ → ℕ → State → State
stored change granules tag i s =
    with_bytes (sets s.bytes (16 * i) (new_bytes change granules))
    (with_tags (sets s.tags i (new_tags granules s.settings.access tag)) s)

-- one tag is a run of one, of none with tag access off
tag_stored : (address tag : ℕ) (s : State)
    → store_tag address tag s ≡ with_tags (sets s.tags (index_of s.settings.base address) (new_tags 1 s.settings.access tag)) s
tag_stored address tag s = go s.settings.access
  where
    go : (t : Bool) → cond t (with_tags (set s.tags (index_of s.settings.base address) tag) s) s
        ≡ with_tags (sets s.tags (index_of s.settings.base address) (new_tags 1 t tag)) s
    go true = refl
    go false = refl

-- two granules one by one are one run

next_tags : (tags : List ℕ) (i j tag : ℕ) (t : Bool) → j ≡ i + 1
    → sets (sets tags i (new_tags 1 t tag)) j (new_tags 1 t tag) ≡ sets tags i (new_tags 2 t tag)
next_tags tags i j tag true e = rw (e, add-one)
next_tags tags i j tag false e = refl

two_tags_stored : (address tag : ℕ) (s : State) → index_of s.settings.base (onward address 16) ≡ index_of s.settings.base address + 1
    → store_tag (onward address 16) tag (store_tag address tag s)
    ≡ with_tags (sets s.tags (index_of s.settings.base address) (new_tags 2 s.settings.access tag)) s
two_tags_stored address tag s e =
    ap (store_tag (onward address 16) tag) (tag_stored address tag s) ∙ tag_stored (onward address 16) tag _
    ∙ ap (λ (tags : List ℕ). with_tags tags s) (next_tags s.tags _ _ tag s.settings.access e)

next_zeros : (bytes : List ℕ) (i j : ℕ) → j ≡ i + 1 → sets (sets bytes (16 * i) (zero_bytes 1)) (16 * j) (zero_bytes 1) ≡ sets bytes (16 * i) (zero_bytes 2)
next_zeros bytes i j e =
    let f : 16 * j ≡ 16 * i + 16 = omega arith in
    rw f (sym (sets_append (zero_bytes 1) bytes (16 * i) (zero_bytes 1)))

-- two words one by one are one run
next_word : (bytes : List ℕ) (a b i low high : ℕ) → a ≡ 16 * i → b ≡ 16 * i + 8
    → sets (sets bytes a (bytes_of low)) b (bytes_of high) ≡ sets bytes (16 * i) (pair_bytes low high)
next_word bytes a b i low high e f = rw (e, f) (sym (rw (low_bytes_length 8 low) at (sets_append (bytes_of low) bytes (16 * i) (bytes_of high))))

-- what a tag store leaves, and what STGP leaves

module _ (address : ℕ) (s : State) (rules : Sized s.settings.base (length s.bytes) (length s.tags)) (z : address % 16 ≡ 0) where
  next : all_inside s.settings.base (length s.tags) 2 address ≡ true
      → index_of s.settings.base (onward address 16) ≡ index_of s.settings.base address + 1
  next h = next_index s.settings.base (length s.bytes) (length s.tags) 0 address rules z h

  pub tags_stored : (op : TagStoreOp) (tag : ℕ) → all_inside s.settings.base (length s.tags) (granules_named op) address ≡ true
      → store_tags op address tag s ≡ stored (zeroing op) (granules_named op) tag (index_of s.settings.base address) s
  tags_stored Stg tag h = tag_stored address tag s
  tags_stored Stzg tag h = tag_stored address tag _
  tags_stored St2g tag h = two_tags_stored address tag s (next h)
  tags_stored Stz2g tag h =
      two_tags_stored address tag _ (next h)
      ∙ ap (λ (bytes : List ℕ). with_bytes bytes (stored kept 2 tag (index_of s.settings.base address) s)) (next_zeros s.bytes _ _ (next h))

  pub pair_stored : (low high : ℕ) → all_inside s.settings.base (length s.tags) 1 address ≡ true
      → store_pair address low high s ≡ stored (pair low high) 1 (tag_of address) (index_of s.settings.base address) s
  pair_stored low high h =
      let first = first_word s.settings.base address rules.aligned z in
      let second = second_word s.settings.base (length s.tags) address rules.aligned z
      (all_first s.settings.base (length s.tags) 0 address h) in
      tag_stored address (tag_of address) _
      ∙ ap (λ (bytes : List ℕ). with_bytes bytes (stored kept 1 (tag_of address) (index_of s.settings.base address) s))
      (next_word s.bytes _ _ _ low high first second)
