-- Calls and the rules of the setup: a call keeps a setup that keeps them, and is refused on one that breaks a rule. Assumes nothing.
use Prim.Native.Nat.{ℕ, ◌+◌, ◌≤◌}
use mathlib.Core.Bool.{Bool, true, false, cond}
use mathlib.Core.List.{List, [], ◌∷◌, ◌++◌}
use mathlib.Core.Path.{◌≡◌, refl, sym, ap}
use native.Mathlib.Nat.{zero-add}
use native.Mathlib.Omega.{arith}
use borrow.Author.Tests.{eqb-true, eqb-false, le-leb}
use lib.Dec.{eqb}
use lib.ListN.{length, take, drop, get_or, replicate, length-replicate}
use lib.Seq.{sets, sets-eq, length-sets, length-take-le}
use Rattle.std.specs.Prelude.{Result, Ok, Err}
use Rattle.bits.specs.Fields.{bits_at}
use Rattle.machine.specs.declared.Code.{Code}
use Rattle.machine.specs.declared.Code.TheVariants.{Setup, BadRecord}
use Rattle.machine.specs.declared.Cursor.{Cursor}
use Rattle.machine.specs.declared.Machine.{Machine}
use Rattle.machine.specs.Setup.{checked, setup_ok, sound, state_ok}
use Rattle.machine.specs.State.{State}
use Rattle.machine.proofs.Rules.{state_sizes}
use Rattle.history.specs.BadRecords.{malformed}
use Rattle.history.specs.Ring.{capacity}
use Rattle.history.specs.Recording.{restored}
use Rattle.history.specs.Records.{entry_in}
use Rattle.history.specs.Inside.Slots.{CursorPlaced, history_of}
use Rattle.execution.specs.Calls.{Call, step_call, run_call, back_call, Out, refused, done, Returned, returned, answered, one_more, in_order, call, calls}
use Rattle.simulator.specs.declared.playing.Call.{Call as Asked}
use Rattle.simulator.specs.Playing.{call_of, codes_of, counts_of, listed, words_taken}
use Rattle.execution.specs.Simulation.{Simulation, simulation, well_formed}
use Rattle.execution.specs.Steps.{step_of, run_of, step_back_of, simulator}
use Rattle.simulator.specs.Inside.Playing.{Wrote}
use Rattle.execution.proofs.Cursors.{placed, placed_ok, retreated_placed}
use Rattle.execution.proofs.Kept.{well_formed_lem, step_keeps, ill_formed}
use Rattle.stepping.proofs.StepsBack.{back_setup, back_none, back_undone, undone_by}

-- what the check of a setup tells

module _ (m : Machine) (bytes tags words : List ℕ) where
  pub check_passed : (u : Unit) → Ok u ≡ checked m (length bytes) (length tags) (length words)
      → well_formed (simulation m bytes tags words) ≡ true
  unfolding well_formed
  check_passed u = go (setup_ok m (length bytes) (length tags) (length words))
    where
      go : (t : Bool) → Ok u ≡ cond {A = Result Unit Code} t (Ok tt) (Err Setup) → t ≡ true
      go true e = refl
      go false e = cc

  pub check_failed : (code : Code) → Err code ≡ checked m (length bytes) (length tags) (length words)
      → (well_formed (simulation m bytes tags words) ≡ false) × (code ≡ Setup)
  unfolding well_formed
  check_failed code = go (setup_ok m (length bytes) (length tags) (length words))
    where
      go : (t : Bool) → Err code ≡ cond {A = Result Unit Code} t (Ok tt) (Err Setup) → (t ≡ false) × (code ≡ Setup)
      go true e = cc
      go false e = (refl, cc)

-- what a call keeps

abbrev Formed : Returned Simulation → Type 0
Formed l = well_formed l.after ≡ true

step_formed : (s : Simulation) (w : ℕ) → well_formed s ≡ true → Formed (answered s (step_of s w))
step_formed s w h = go (step_of s w) refl
  where
    go : (o : Out Simulation) → step_of s w ≡ o → Formed (answered s o)
    go (refused code) e = h
    go (done after) e = step_keeps s after w h e

run_formed : (ws : List ℕ) (s : Simulation) → well_formed s ≡ true → Formed (in_order step_of s ws)
unfolding in_order
run_formed [] s h = h
run_formed (w ∷ ws) s h = go (step_of s w) (λ after e. run_formed ws after (step_keeps s after w h e))
  where
    go : (o : Out Simulation) → ((after : Simulation) → o ≡ done after → Formed (in_order step_of after ws))
        → Formed (elim o [ refused code ↦ returned code 0 s | done after ↦ one_more (in_order step_of after ws) ])
    go (refused code) k = h
    go (done after) k = k after refl

data_length : (t : Bool) (l : List ℕ) (i : ℕ) (vs : List ℕ) → length (cond t (sets l i vs) l) ≡ length l
data_length true l i vs = length-sets l i vs
data_length false l i vs = refl

-- NZCV and RGSR come out of four bits each, and the sizes stay
restored_sound : (r : List ℕ) (s : State) → sound s ≡ true → sound (restored (entry_in r) s) ≡ true
unfolding restored entry_in state_ok
restored_sound r s h =
    let e = entry_in r in
    let four : (w at : ℕ) → bits_at w at 4 ≤ 15 = λ w at. omega arith in
    simp (
      data_length,
      length-sets,
      state_sizes s.settings s.registers.status (length s.bytes) (length s.tags) h,
      le-leb e.status.nzcv 15 (four (get_or r 0 0) 32),
      le-leb e.status.rgsr 15 (four (get_or r 0 0) 36),
    )

module _ (s : Simulation) (h : well_formed s ≡ true) where
  undone_formed : (r : List ℕ) (before : Cursor) → CursorPlaced (capacity s.history) before → Formed (answered s (undone_by r before s))
  unfolding undone_by
  undone_formed r before p =
      let after : Simulation = record { state = restored (entry_in r) s.state; history = history_of s.history.words before } in
      go (malformed (length s.state.tags) r) after
      ((well_formed_lem after).1 (restored_sound r s.state ((well_formed_lem s).0 h).0, placed_ok (capacity s.history) before p))
    where
      go : (t : Bool) (after : Simulation) → well_formed after ≡ true → Formed (answered s (cond t (refused BadRecord) (done after)))
      go true after k = h
      go false after k = k

  -- the cursor retreats
  back_formed : Formed (answered s (step_back_of s))
  back_formed = go (eqb s.history.cursor.held 0) refl
    where
      go : (t : Bool) → eqb s.history.cursor.held 0 ≡ t → Formed (answered s (step_back_of s))
      go true z = rw (back_none s h (eqb-true s.history.cursor.held 0 z)) h
      go false z =
          let some = eqb-false s.history.cursor.held 0 z in
          let p = placed (capacity s.history) s.history.cursor ((well_formed_lem s).0 h).1 in
          rw (back_undone s h some)
          (undone_formed _ _ (retreated_placed (capacity s.history) s.history.cursor (omega (arith, some)) p))

pub call_keeps : (c : Call) (s : Simulation) → well_formed s ≡ true → well_formed (call simulator s c).after ≡ true
unfolding call run_of
call_keeps (step_call w) s h = step_formed s w h
call_keeps (run_call ws) s h = rw h (run_formed ws s h)
call_keeps back_call s h = back_formed s h

-- on a setup that breaks a rule

call_refused : (c : Call) (s : Simulation) → well_formed s ≡ false → call simulator s c ≡ returned Setup 0 s
unfolding call run_of
call_refused (step_call w) s h = rw (ill_formed s w h)
call_refused (run_call ws) s h = rw h
call_refused back_call s h = rw (back_setup s h)

calls_refused : (list : List Asked) (words : List ℕ) (s : Simulation) → well_formed s ≡ false
    → (codes_of (calls simulator s (listed list words)).answers ≡ replicate (length list) Setup)
    × (counts_of (calls simulator s (listed list words)).answers ≡ replicate (length list) 0)
    × ((calls simulator s (listed list words)).final ≡ s)
unfolding calls listed
calls_refused [] words s h = (refl, refl, refl)
calls_refused (c ∷ cs) words s h =
    let rest = calls_refused cs (drop (words_taken c) words) s h in
    rw (call_refused (call_of c words) s h) (ap (λ (l : List Code). Setup ∷ l) rest.0, ap (λ (l : List ℕ). 0 ∷ l) rest.1, rest.2)

module _ (s : Simulation) (list : List Asked) (words : List ℕ) (codes : List Code) (counts : List ℕ) (codes' : List Code)
    (counts' : List ℕ) where
  pub list_refused : well_formed s ≡ false → codes' ≡ sets codes 0 (replicate (length list) Setup)
      → counts' ≡ sets counts 0 (replicate (length list) 0) → Wrote s list words codes counts codes' counts' s
  list_refused h k n =
      let all = calls_refused list words s h in
      record { codes_written = rw all.0 k; counts_written = rw all.1 n; final = sym all.2 }

-- the first places of a list filled with one value

pub filled : {A : Type 0} (n : ℕ) (v : A) (l front : List A) → n ≤ length l → front ≡ replicate (length (take n l)) v
    → front ++ drop n l ≡ sets l 0 (replicate n v)
filled {A} n v l front h e =
    let long : length (replicate n v) ≡ n = length-replicate n v in
    let inside : 0 + length (replicate n v) ≤ length l = omega (arith, h, long) in
    rw (e, length-take-le n l h, sets-eq (replicate n v) l 0 inside, long, zero-add) refl
