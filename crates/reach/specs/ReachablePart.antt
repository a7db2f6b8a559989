-- The part of the data that a pointer reaches (document 01, "The reachable part").
use Rattle.std.specs.Prelude.{ℕ, ◌-◌, ◌*◌, ◌/◌, ◌%◌, Bool, cond, ◌&&◌, List, [], eqb, length, take, drop}
use Rattle.std.specs.List.{prefix_len}
use Rattle.memory.specs.Locations.{location, inside}
use Rattle.memory.specs.Sizes.{sizes_ok}
use Rattle.memory.specs.TagBytes.{tag_in}
use Rattle.tag.specs.PointerTags.{tag_of}

-- how many granules in a row, from the first on, carry the tag
unfoldable pub in_row : ℕ → List ℕ → ℕ
in_row tag tags = prefix_len (λ byte. eqb (tag_in byte) tag) tags

-- where in the data the pointer's own byte is: it may lie inside a granule
abbrev pub offset_of : ℕ → ℕ → ℕ
offset_of base pointer = location pointer - base

-- the data from a place on, to the end of the granules in a row that carry the tag
unfoldable pub part_from : ℕ → ℕ → List ℕ → List ℕ → List ℕ
part_from at tag bytes tags = take (16 * in_row tag (drop (at / 16) tags) - at % 16) (drop at bytes)

-- sizes and base keep the rule of the setup, and the pointer is inside
unfoldable pub points_inside : ℕ → ℕ → List ℕ → List ℕ → Bool
points_inside pointer base bytes tags = sizes_ok base (length bytes) (length tags) && inside base (length tags) pointer

-- the part that a pointer reaches; outside, or with a broken size or base, an empty one. Bits 63:60 of the pointer and tag access
-- play no part
unfoldable pub reachable_of : ℕ → ℕ → List ℕ → List ℕ → List ℕ
reachable_of pointer base bytes tags =
    cond (points_inside pointer base bytes tags) (part_from (offset_of base pointer) (tag_of pointer) bytes tags) []
