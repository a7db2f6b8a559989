-- Demand 3 holds of the simulator. Assumes nothing.
use Prim.Native.Nat.{ℕ}
use mathlib.Core.Bool.{true}
use mathlib.Core.List.{List, [], ◌∷◌}
use mathlib.Core.Path.{◌≡◌, refl}
use native.Mathlib.Omega.{arith}
use lib.ListN.{take}
use borrow.Author.Tests.{eq-eqb, ne_eqb}
use Rattle.isa.specs.Decoding.{decode_of}
use Rattle.machine.specs.declared.Code.TheVariants.{NoHistory}
use Rattle.machine.specs.Codes.{is_done, lowest}
use Rattle.machine.specs.Setup.{sound}
use Rattle.machine.specs.State.{State, Typed}
use Rattle.instructions.specs.WordOutcomes.{word_outcome}
use Rattle.instructions.proofs.TypedStates.{word_typed}
use Rattle.instructions.proofs.WellFormed.{word_sound}
use Rattle.history.specs.Ring.{History, capacity, pushed, popped}
use Rattle.history.specs.Recording.{record_of}
use Rattle.history.proofs.Recorded.{Restores, word_undone}
use Rattle.execution.specs.Calls.{refused}
use Rattle.simulator.specs.Demand3.{Demand3}
use Rattle.simulator.specs.PlainMachine.{Plain, plain_step, plain_back, plain_machine}
use Rattle.execution.specs.Simulation.{Simulation, well_formed}
use Rattle.execution.specs.Steps.{step_of, run_of, step_back_of, simulator}
use Rattle.execution.proofs.Cursors.{placed, placed_ok}
use Rattle.execution.proofs.Kept.{well_formed_lem}
use Rattle.simulator.proofs.Ring.{Ringed, ring_start, ring_push, ring_newest, ring_pop}
use Rattle.simulator.proofs.UndoLog.{Rules, Stacking, Logging, UndoLog, Popped, Beside, beside, calls_beside}

abbrev rules : Rules State
rules = record { code = λ s w. (word_outcome (sound s) w s).code; after = λ s w. (word_outcome (sound s) w s).state }

-- the plain machine stacks whole copies
stacking : (c : ℕ) → Stacking rules State (plain_machine c)
unfolding plain_step plain_back
stacking c =
    record {
      holding = λ s ks. record { state = s; copies = ks };
      pile = λ s w ks. take c (s ∷ ks);
      copied = λ s. s;
      steps = λ s ks w. refl;
      runs = λ p ws. refl;
      none = λ s. refl;
      newest = λ s k ks. refl;
    }

abbrev joined : State → History → Simulation
joined s h = record { state = s; history = h }

-- the simulator logs records
logging : Logging rules History simulator
unfolding step_of run_of
logging =
    record {
      joined = joined;
      formed = λ s h. well_formed (joined s h);
      push = λ s w h. pushed (record_of (decode_of w) s) h;
      steps = λ s h w f. rw (f, ((well_formed_lem (joined s h)).0 f).0);
      runs = λ s h ws f. rw f;
    }

-- what holds of each state on the way
record Good (s : State) : Type 0 where
  sounds : sound s ≡ true
  typed : Typed s

-- a record that undoes
abbrev Undoing : List ℕ → State → State → Type 0
Undoing r s before = Restores r s before × Good before

record Undoes (c : ℕ) (s : State) (h : History) (ks : List State) : Type 0 where
  good : Good s
  ringed : Ringed Undoing c h s ks

module _ (c : ℕ) where
  abbrev Start : State → History → Type 0
  Start s h = (well_formed (joined s h) ≡ true) × Typed s × (h.cursor.held ≡ 0) × (capacity h ≡ c)

  starts : (s : State) (h : History) → Start s h → Undoes c s h []
  starts s h (f, t, e, z) =
      let (ok, rule) = (well_formed_lem (joined s h)).0 f in
      record { good = record { sounds = ok; typed = t }; ringed = rw z at (ring_start Undoing h s (placed _ _ rule) e) }

  holds : (s : State) (h : History) (ks : List State) → Undoes c s h ks → well_formed (joined s h) ≡ true
  holds s h ks u = (well_formed_lem (joined s h)).1 (u.good.sounds, rw u.ringed.size (placed_ok c h.cursor u.ringed.cursor))

  pushes : (s : State) (h : History) (ks : List State) (w : ℕ) → Undoes c s h ks → is_done (rules.code s w) ≡ true
      → Undoes c (rules.after s w) (pushed (record_of (decode_of w) s) h) (take c (s ∷ ks))
  pushes s h ks w u e =
      let g = u.good in
      let restores = word_undone w s g.sounds g.typed (rw g.sounds at e) in
      rw g.sounds
      (record {
        good = record { sounds = word_sound w s g.sounds; typed = word_typed w s g.sounds g.typed };
        ringed =
            ring_push Undoing c h s (word_outcome true w s).state ks (record_of (decode_of w) s) restores.wide
            (restores, g) u.ringed;
      })

  empty : (s : State) (h : History) → Undoes c s h [] → step_back_of (joined s h) ≡ refused NoHistory
  unfolding step_back_of lowest
  empty s h u = rw (holds s h [] u, eq-eqb h.cursor.held 0 u.ringed.held)

  pops : (s : State) (h : History) (k : State) (ks : List State) → Undoes c s h (k ∷ ks) → Popped logging (stacking c) (Undoes c) s h k ks
  unfolding logging stacking step_back_of lowest
  pops s h k ks u =
      let (restores, good) = ring_newest Undoing c h s k ks u.ringed in
      let some : h.cursor.held ≡ 0 → ⊥ = omega (arith, u.ringed.held) in
      record {
        rest = popped h;
        back = rw (holds s h (k ∷ ks) u, ne_eqb h.cursor.held 0 some, restores.well, restores.back);
        undoes = record { good = good; ringed = ring_pop Undoing c h s k ks u.ringed };
      }

  undo_log : UndoLog logging (stacking c) Start
  unfolding logging stacking
  undo_log = record { Undoes = Undoes c; starts = starts; holds = holds; pushes = pushes; empty = empty; pops = pops }

  same_state : (x : Simulation) (p : Plain) → Beside logging (stacking c) undo_log x p → x.state ≡ p.state
  unfolding logging stacking
  same_state x p (beside s h ks u) = refl

-- From every well-formed setup with an empty history, every list of steps, runs and steps back gets from the simulator of specs/Steps
-- the codes and counts that it gets from the plain machine of specs/PlainMachine, and both end in one state. A step's code and state
-- are those of instructions' specs/Words, in Arm's form; records and ring are those of history's specs/Recording and specs/Ring.
pub demand3 : Demand3 simulator
unfolding Demand3 logging stacking
demand3 start typed formed empty list =
    let c : ℕ = capacity start.history in
    let ended = calls_beside logging (stacking c) (undo_log c) start.state start.history (formed, typed, empty, refl) list in
    record { answers = ended.answers; state = same_state c _ _ ended.final }
