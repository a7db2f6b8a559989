-- The law of specs/Longest. Assumes nothing.
use Prim.Native.Nat.{ℕ, suc, ◌+◌, ◌-◌, ◌*◌, ◌/◌, ◌%◌, ◌<◌}
use mathlib.Core.Bool.{Bool, true, false}
use mathlib.Core.List.{List}
use mathlib.Core.Path.{◌≡◌, refl, ap, sym, ◌∙◌}
use native.Mathlib.Nat.{lt_of_not-le, le_antisymm}
use native.Mathlib.Omega.{arith}
use lib.ListN.{length, take, drop, length-take, length-drop}
use Rattle.tag.specs.PointerTags.{tag_of}
use Rattle.reach.specs.ReachablePart.{in_row, offset_of, part_from, points_inside, reachable_of}
use Rattle.reach.specs.Longest.{Carried, Longest, Ends, Reaches, TheReachablePart}
use Rattle.reach.proofs.Rows.{end_le, carries_from, stops_from}
use Rattle.reach.proofs.Parts.{within, empty_part, whole_part}

module _ (at tag : ℕ) (bytes tags : List ℕ) (sixteen : length bytes ≡ 16 * length tags) (below : at < length bytes) where
  part_length : length (part_from at tag bytes tags) ≡ 16 * in_row tag (drop (at / 16) tags) - at % 16
  unfolding part_from
  part_length = simp (length-take, length-drop) (omega (arith, end_le tag tags (at / 16) (omega arith)))

  part_carried : Carried at tag bytes tags (length (part_from at tag bytes tags))
  part_carried =
      record {
        there = omega (arith, part_length, end_le tag tags (at / 16) (omega arith));
        carry = λ i h.
            let k = (at + i) / 16 - at / 16 in
            let e : (at + i) / 16 ≡ at / 16 + k = omega arith in
            rw e (carries_from tag tags (at / 16) k (omega (arith, part_length)));
      }

  part_ends : Ends at tag bytes tags (part_from at tag bytes tags)
  part_ends =
      record {
        whole = λ h. omega (arith, part_length);
        next = λ h.
            let e : (at + length (part_from at tag bytes tags)) / 16 ≡ at / 16 + in_row tag (drop (at / 16) tags) = omega (arith, part_length) in
            rw e (stops_from tag tags (at / 16) (omega (arith, part_length)));
      }

  part_longest : Longest at tag bytes tags (part_from at tag bytes tags)
  unfolding part_from
  part_longest =
      record {
        starts = ap (λ (n : ℕ). take n (drop at bytes)) (sym part_length);
        carried = part_carried;
        longest = λ n h.
            let k = length (part_from at tag bytes tags) in
            omega (arith, lt_of_not-le {n = suc k} {m = n} (λ over. part_ends.next (omega arith) (h.carry k over)));
      }

-- there is one longest part
same_longest : (at tag : ℕ) (bytes tags part other : List ℕ) → Longest at tag bytes tags part → Longest at tag bytes tags other
    → part ≡ other
same_longest at tag bytes tags part other l m =
    let e = le_antisymm (m.longest (length part) l.carried) (l.longest (length other) m.carried) in
    l.starts ∙ ap (λ (n : ℕ). take n (drop at bytes)) e ∙ sym m.starts

module _ (pointer base : ℕ) (bytes tags : List ℕ) where
  reached_longest : points_inside pointer base bytes tags ≡ true
      → Longest (offset_of base pointer) (tag_of pointer) bytes tags (reachable_of pointer base bytes tags)
  reached_longest h =
      let w = within pointer base bytes tags h in
      rw (whole_part pointer base bytes tags h)
      (part_longest (offset_of base pointer) (tag_of pointer) bytes tags w.sizes.sixteen (omega arith))

  reached_ends : points_inside pointer base bytes tags ≡ true
      → Ends (offset_of base pointer) (tag_of pointer) bytes tags (reachable_of pointer base bytes tags)
  reached_ends h =
      let w = within pointer base bytes tags h in
      rw (whole_part pointer base bytes tags h)
      (part_ends (offset_of base pointer) (tag_of pointer) bytes tags w.sizes.sixteen (omega arith))

  only_reached : (part : List ℕ) → Reaches pointer base bytes tags part → part ≡ reachable_of pointer base bytes tags
  only_reached part r = go (points_inside pointer base bytes tags) refl
    where
      go : (t : Bool) → points_inside pointer base bytes tags ≡ t → part ≡ reachable_of pointer base bytes tags
      go true h =
          same_longest (offset_of base pointer) (tag_of pointer) bytes tags part (reachable_of pointer base bytes tags)
          (r.longest_inside h) (reached_longest h)
      go false h = r.empty_else h ∙ sym (empty_part pointer base bytes tags h)

pub the_reachable_part : TheReachablePart
the_reachable_part =
    record {
      reached = λ pointer base bytes tags.
          record { longest_inside = reached_longest pointer base bytes tags; empty_else = empty_part pointer base bytes tags };
      only = only_reached;
      ends = reached_ends;
    }
