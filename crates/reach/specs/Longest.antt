-- "The longest part of the data, starting at the pointer's location, whose granules all carry the pointer's tag" (document 01,
-- "The reachable part"), and that the definition is that part and no other. Proved in proofs/Longest.
use Rattle.std.specs.Prelude.{ℕ, ◌+◌, ◌/◌, ◌%◌, ◌≤◌, ◌<◌, true, false, List, [], ◌≡◌, length, take, drop, get_or}
use Rattle.memory.specs.TagBytes.{tag_in}
use Rattle.tag.specs.PointerTags.{tag_of}
use Rattle.reach.specs.ReachablePart.{offset_of, points_inside, reachable_of}

-- the granule of a byte of the data carries the tag
abbrev pub Carries : ℕ → List ℕ → ℕ → Type 0
Carries tag tags byte = tag_in (get_or tags (byte / 16) 0) ≡ tag

-- the data has n bytes from a place on, and their granules all carry the tag
pub record Carried (at tag : ℕ) (bytes tags : List ℕ) (n : ℕ) : Type 0 where
  pub there : at + n ≤ length bytes
  pub carry : (i : ℕ) → i < n → Carries tag tags (at + i)

-- the longest part of the data that starts at a place and whose granules all carry the tag
pub record Longest (at tag : ℕ) (bytes tags part : List ℕ) : Type 0 where
  pub starts : part ≡ take (length part) (drop at bytes)
  pub carried : Carried at tag bytes tags (length part)
  pub longest : (n : ℕ) → Carried at tag bytes tags n → n ≤ length part

-- where such a part ends: with a granule, unless it is empty; and the granule after it, if there is one, carries another tag
pub record Ends (at tag : ℕ) (bytes tags part : List ℕ) : Type 0 where
  pub whole : 0 < length part → (at + length part) % 16 ≡ 0
  pub next : at + length part < length bytes → Carries tag tags (at + length part) → ⊥

-- what a pointer reaches: the longest part, and an empty one outside or with a broken size or base
pub record Reaches (pointer base : ℕ) (bytes tags part : List ℕ) : Type 0 where
  pub longest_inside : points_inside pointer base bytes tags ≡ true
      → Longest (offset_of base pointer) (tag_of pointer) bytes tags part
  pub empty_else : points_inside pointer base bytes tags ≡ false → part ≡ []

-- the definition gives such a part, and there is no other
pub record TheReachablePart : Type 0 where
  pub reached : (pointer base : ℕ) (bytes tags : List ℕ)
      → Reaches pointer base bytes tags (reachable_of pointer base bytes tags)
  pub only : (pointer base : ℕ) (bytes tags part : List ℕ) → Reaches pointer base bytes tags part
      → part ≡ reachable_of pointer base bytes tags
  pub ends : (pointer base : ℕ) (bytes tags : List ℕ) → points_inside pointer base bytes tags ≡ true
      → Ends (offset_of base pointer) (tag_of pointer) bytes tags (reachable_of pointer base bytes tags)
