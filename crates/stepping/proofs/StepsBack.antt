-- A step back, case by case. Assumes nothing.
use Prim.Native.Nat.{ℕ, zero, suc, ◌*◌, ◌<◌}
use mathlib.Core.Bool.{Bool, true, false, cond}
use mathlib.Core.Logic.{◌≢◌}
use mathlib.Core.List.{List, []}
use mathlib.Core.Path.{◌≡◌, refl, ap, ◌∙◌}
use native.Mathlib.Omega.{arith}
use lib.ListN.{length, take, drop, get_or}
use lib.Seq.{drop-drop}
use Rattle.std.specs.Simd.{first_chunks}
use borrow.Author.Tests.{ne_eqb}
use Rattle.machine.specs.declared.Code.TheVariants.{Done, Setup, NoHistory, BadRecord}
use Rattle.machine.specs.declared.Cursor.{Cursor}
use Rattle.machine.specs.Codes.{lowest}
use Rattle.history.specs.BadRecords.{malformed}
use Rattle.history.specs.Inside.Slots.{history_of}
use Rattle.history.specs.Recording.{restored}
use Rattle.history.specs.Records.{entry_in}
use Rattle.history.specs.Ring.{capacity, retreated, newest, popped}
use Rattle.execution.specs.Calls.{Out, refused, done, when_done}
use Rattle.execution.specs.Simulation.{Simulation, well_formed}
use Rattle.execution.specs.Steps.{step_back_of}
use Rattle.execution.proofs.Cursors.{placed, retreated_placed}
use Rattle.execution.proofs.Kept.{well_formed_lem}

-- the slots of the history, each whole
pub slot_at : (words : List ℕ) (n k : ℕ) → k < n → get_or (first_chunks 8 n words) k [] ≡ take 8 (drop (8 * k) words)
slot_at words zero k h = absurd (omega (arith, h))
slot_at words (suc n) zero h = refl
slot_at words (suc n) (suc k) h =
    slot_at (drop 8 words) n k (omega (arith, h))
    ∙ ap (take 8) (drop-drop (8 * k) 8 words ∙ ap (λ (j : ℕ). drop j words) (omega arith))

-- a record undone, with the cursor moved back to it
unfoldable pub undone_by : List ℕ → Cursor → Simulation → Out Simulation
undone_by r cursor s =
    cond (malformed (length s.state.tags) r) (refused BadRecord)
    (done (record { state = restored (entry_in r) s.state; history = history_of s.history.words cursor }))

module _ (s : Simulation) where
  pub back_setup : well_formed s ≡ false → step_back_of s ≡ refused Setup
  unfolding step_back_of lowest
  back_setup h = rw h

  pub back_none : well_formed s ≡ true → s.history.cursor.held ≡ 0 → step_back_of s ≡ refused NoHistory
  unfolding step_back_of lowest
  back_none h z = rw (h, z)

  -- with a record to read, in the slots of the history
  module _ (h : well_formed s ≡ true) (some : s.history.cursor.held ≢ 0) where
    abbrev before : Cursor
    before = retreated (capacity s.history) s.history.cursor

    pub back_cursor : (s.history.cursor.next < capacity s.history) × (before.next < capacity s.history)
    back_cursor =
        let p = placed (capacity s.history) s.history.cursor ((well_formed_lem s).0 h).1 in
        let c : 0 < capacity s.history = omega (arith, some) in
        omega (arith, retreated_placed (capacity s.history) s.history.cursor c p)

    pub back_undone : step_back_of s ≡ undone_by (take 8 (drop (8 * before.next) s.history.words)) before s
    unfolding step_back_of lowest undone_by newest popped retreated
    back_undone = rw (h, ne_eqb s.history.cursor.held 0 some) (go (malformed (length s.state.tags) (newest s.history)) _)
      where
        go : {X : Type 0} (t : Bool) (after : X) → when_done (cond t BadRecord Done) after ≡ cond t (refused BadRecord) (done after)
        go true after = refl
        go false after = refl

    -- the slots read as arrays, and the cursor moved back over them
    module _ (slots : List (List ℕ)) (cursor : Cursor) (front : slots ≡ first_chunks 8 (capacity s.history) s.history.words)
        (size : length slots ≡ capacity s.history) (moved : cursor ≡ retreated (length slots) s.history.cursor) where
      here : cursor ≡ before
      here = rw size at moved

      pub slot_inside : cursor.next < length slots
      slot_inside = rw (here, size) back_cursor.1

      pub slot_undone : step_back_of s ≡ undone_by (get_or slots cursor.next []) cursor s
      slot_undone = rw (front, here, slot_at s.history.words (capacity s.history) before.next back_cursor.1) back_undone
