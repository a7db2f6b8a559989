-- What the rule of specs/BadRecords says of a record that it accepts, part by part. Assumes nothing.
use Prim.Native.Nat.{ℕ, ◌+◌, ◌≤◌}
use mathlib.Core.Path.{◌≡◌}
use mathlib.Core.Bool.{Bool, true, false, ◌||◌}
use mathlib.Core.List.{List}
use native.Mathlib.Omega.{arith}
use Rattle.std.proofs.lemmas.Bool.Decides.{nat_tests}
use lib.ListN.{get_or}
use borrow.Author.Tests.{ltb-false}
use Rattle.bits.specs.Fields.{bits_at}
use Rattle.history.specs.declared.Entry.{Entry}
use Rattle.history.specs.Records.{tag_at, data_at, entry_in}
use Rattle.history.specs.BadRecords.{out_of_range, gap_not_zero, value_not_zero, tags_not_zero, data_not_zero, data_of_none, beyond, malformed}

pub record Rules (g : ℕ) (e : Entry) : Type 0 where
  pub register : e.register ≤ 32
  pub granules : e.granules ≤ 2
  pub value : e.register ≡ 32 → e.value ≡ 0
  pub none : e.granules ≡ 0 → (tag_at e 0 ≡ 0) × (tag_at e 1 ≡ 0) × (e.first ≡ 0)
  pub one : e.granules ≡ 1 → (tag_at e 1 ≡ 0) × (data_at e 2 ≡ 0) × (data_at e 3 ≡ 0)
  pub unsaved : e.saved ≡ false → (data_at e 0 ≡ 0) × (data_at e 1 ≡ 0) × (data_at e 2 ≡ 0) × (data_at e 3 ≡ 0)
  pub saved : e.saved ≡ true → e.granules ≡ 0 → ⊥
  pub inside : e.first + e.granules ≤ g

-- a place that is not in use is zero

pub gaps : (r : List ℕ) → gap_not_zero r ≡ false
    → (bits_at (get_or r 0 0) 6 2 ≡ 0) × (bits_at (get_or r 0 0) 11 5 ≡ 0) × (bits_at (get_or r 0 0) 56 8 ≡ 0) × (get_or r 7 0 ≡ 0)
gaps r h = grind (arith, nat_tests)

module _ (e : Entry) where
  range_part : out_of_range e ≡ false → (e.register ≤ 32) × (e.granules ≤ 2)
  range_part h = grind (arith, nat_tests)

  value_part : value_not_zero e ≡ false → e.register ≡ 32 → e.value ≡ 0
  value_part h = grind (arith, nat_tests)

  tags_part : tags_not_zero e ≡ false
      → (e.granules ≡ 0 → (tag_at e 0 ≡ 0) × (tag_at e 1 ≡ 0) × (e.first ≡ 0)) × (e.granules ≡ 1 → tag_at e 1 ≡ 0)
  tags_part h = grind (arith, nat_tests)

  data_part : data_not_zero e ≡ false
      → (e.saved ≡ false → (data_at e 0 ≡ 0) × (data_at e 1 ≡ 0) × (data_at e 2 ≡ 0) × (data_at e 3 ≡ 0))
      × (e.granules ≡ 1 → (data_at e 2 ≡ 0) × (data_at e 3 ≡ 0))
  data_part h = grind (arith, nat_tests)

  saved_part : data_of_none e ≡ false → e.saved ≡ true → e.granules ≡ 0 → ⊥
  saved_part h = grind (arith, nat_tests)

-- seven tests that all fail
seven : (a b c d e f g : Bool) → (a || (b || (c || (d || (e || (f || g)))))) ≡ false
    → (a ≡ false) × (b ≡ false) × (c ≡ false) × (d ≡ false) × (e ≡ false) × (f ≡ false) × (g ≡ false)
seven a b c d e f g h = grind (arith, nat_tests)

pub rules : (g : ℕ) (r : List ℕ) → malformed g r ≡ false → (gap_not_zero r ≡ false) × Rules g (entry_in r)
unfolding malformed
rules g r h =
    let e = entry_in r in
    let p = seven (out_of_range e) (gap_not_zero r) (value_not_zero e) (tags_not_zero e) (data_not_zero e) (data_of_none e) (beyond g e) h in
    let range = range_part e p.0 in
    let tags = tags_part e p.3 in
    let words = data_part e p.4 in (
      p.1,
      record {
        register = range.0;
        granules = range.1;
        value = value_part e p.2;
        none = tags.0;
        one = λ z. let q = words.1 z in (tags.1 z, q.0, q.1);
        unsaved = words.0;
        saved = saved_part e p.5;
        inside = ltb-false g (e.first + e.granules) p.6;
      },
    )

-- the granules of an accepted record are inside
pub accepted : (g : ℕ) (r : List ℕ) (e : Entry) → malformed g r ≡ false → e ≡ entry_in r → (e.granules ≤ 2) × (e.first + e.granules ≤ g)
accepted g r e h p = let k = (rules g r h).1 in rw p (k.granules, k.inside)
