-- Laws of the reachable part: where it is empty, and what it is else. Assumes nothing.
use Prim.Native.Nat.{ℕ, ◌+◌, ◌-◌, ◌*◌, ◌/◌, ◌%◌, ◌≤◌, ◌<◌}
use mathlib.Core.Bool.{Bool, true, false, and-false, and-eq-true_iff}
use mathlib.Core.List.{List, []}
use mathlib.Core.Path.{◌≡◌, refl, sym}
use native.Mathlib.Omega.{arith}
use lib.ListN.{length, take, drop}
use Rattle.std.specs.Prelude.{Ok, Err}
use Rattle.memory.specs.declared.LocateError.TheVariants.{Outside}
use Rattle.memory.specs.Locations.{location, inside, index_of, granule_of}
use Rattle.memory.specs.Sizes.{sizes_ok}
use Rattle.memory.proofs.Locations.{inside_range, one_inside, located, all_first}
use Rattle.memory.proofs.Sizes.{Sized, sized}
use Rattle.tag.specs.PointerTags.{tag_of}
use Rattle.reach.specs.ReachablePart.{in_row, offset_of, part_from, points_inside, reachable_of}
use Rattle.reach.proofs.Rows.{end_le}

module _ (pointer base : ℕ) (bytes tags : List ℕ) where
  -- what is known of a pointer inside
  pub record Inside : Type 0 where
    pub sizes : Sized base (length bytes) (length tags)
    pub above : base ≤ location pointer
    pub below : location pointer < base + 16 * length tags

  pub within : points_inside pointer base bytes tags ≡ true → Inside
  unfolding points_inside
  within h =
      let both = (and-eq-true_iff (sizes_ok base (length bytes) (length tags)) (inside base (length tags) pointer)).0 h in
      let range = inside_range base (length tags) pointer both.1 in
      record { sizes = sized base (length bytes) (length tags) both.0; above = range.0; below = range.1 }

  pub empty_part : points_inside pointer base bytes tags ≡ false → reachable_of pointer base bytes tags ≡ []
  unfolding reachable_of
  empty_part h = rw h

  pub whole_part : points_inside pointer base bytes tags ≡ true
      → reachable_of pointer base bytes tags ≡ part_from (offset_of base pointer) (tag_of pointer) bytes tags
  unfolding reachable_of
  whole_part h = rw h

  -- what the code finds: a broken size or base, a granule, or none

  pub unsized : sizes_ok base (length bytes) (length tags) ≡ false → points_inside pointer base bytes tags ≡ false
  unfolding points_inside
  unsized h = rw h

  pub missed : granule_of base (length tags) pointer 1 ≡ Err Outside → points_inside pointer base bytes tags ≡ false
  unfolding points_inside
  missed h = rw (go (inside base (length tags) pointer) refl) (and-false (sizes_ok base (length bytes) (length tags)))
    where
      go : (t : Bool) → inside base (length tags) pointer ≡ t → inside base (length tags) pointer ≡ false
      go true e = let z : ◌≡◌ {A = ℕ} 0 1 = cc (one_inside base (length tags) pointer e) in absurd (omega arith)
      go false e = e

  pub record Found (first : ℕ) : Type 0 where
    pub points : points_inside pointer base bytes tags ≡ true
    pub index : first ≡ index_of base pointer
    pub inside : Inside

  pub found : (first : ℕ) → sizes_ok base (length bytes) (length tags) ≡ true → granule_of base (length tags) pointer 1 ≡ Ok first
      → Found first
  unfolding points_inside
  found first s h =
      let here = located base (length tags) pointer 1 first h in
      let points : points_inside pointer base bytes tags ≡ true = rw (s, all_first base (length tags) 0 pointer here.0) in
      record { points = points; index = here.1; inside = within points }

  -- the part, by the granule found and the end of the row that the code counts

  module _ (first end : ℕ) (f : Found first) (e : end ≡ first + in_row (tag_of pointer) (drop first tags)) where
    pub end_within : end ≤ length tags
    end_within = rw e (end_le (tag_of pointer) tags first (omega arith))

    pub counted_part : take (16 * end - (16 * first + pointer % 16)) (drop (16 * first + pointer % 16) bytes)
        ≡ reachable_of pointer base bytes tags
    unfolding part_from
    counted_part =
        let at = offset_of base pointer in
        let start : 16 * first + pointer % 16 ≡ at = omega arith in
        let size : 16 * end - at ≡ 16 * in_row (tag_of pointer) (drop (at / 16) tags) - at % 16 = omega (arith, rw f.index at e) in
        rw (start, size) (sym (whole_part f.points))
