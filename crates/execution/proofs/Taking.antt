-- A decoded word taken on a setup that keeps the rules is a step. Assumes nothing.
use Rattle.std.proofs.Common.{◌≡◌, ◌≢◌, ℕ, ◌*◌, ◌<◌, ◌≤◌, Bool, true, false, cond, List, length, Result, Ok, Err, IfErr, sym, refl, ap, ◌∙◌, arith, eq-eqb}
use Rattle.std.specs.Prelude.{⊤, Option, Some, None}
use Rattle.isa.specs.declared.Form.{Form}
use Rattle.isa.specs.Decoding.{decode_of}
use Rattle.memory.specs.Sizes.{sizes_ok}
use Rattle.memory.proofs.Sizes.{Sized}
use Rattle.machine.specs.declared.Code.{Code}
use Rattle.machine.specs.declared.Code.TheVariants.{Done, Undefined}
use Rattle.machine.specs.Codes.{code_number, code_in, lowest, is_done}
use Rattle.machine.specs.Setup.{sound}
use Rattle.machine.specs.State.{State}
use Rattle.machine.proofs.Rules.{state_sized, state_sizes, state_status}
use Rattle.instructions.specs.Accesses.{access_of, no_access}
use Rattle.instructions.specs.WordOutcomes.{code_of, carried_out, word_outcome}
use Rattle.instructions.specs.Inside.Places.{access_code}
use Rattle.instructions.proofs.Outcomes.{form_outcome}
use Rattle.history.specs.Ring.{History, capacity, pushed}
use Rattle.history.specs.Recording.{record_of}
use Rattle.history.specs.Inside.Slots.{CursorPlaced}
use Rattle.history.proofs.Recorded.{form_entry}
use Rattle.execution.specs.Calls.{Out, done, refused, returned, answered, when_done}
use Rattle.execution.specs.Simulation.{Simulation, well_formed}
use Rattle.execution.specs.Steps.{step_of}
use Rattle.execution.specs.Inside.Taking.{Took, form_carried, form_taken, decoded_taken}
use Rattle.execution.proofs.Cursors.{placed}
use Rattle.execution.proofs.Kept.{well_formed_lem, refusal}

-- a step by what its word decodes to
abbrev step_by : Option Form → Simulation → Out Simulation
step_by d s =
    when_done (code_of true d s.state)
    (record {
      state = cond (is_done (code_of true d s.state)) (carried_out d s.state) s.state;
      history = pushed (record_of d s.state) s.history;
    })

pub decoded_step : (s : Simulation) (w : ℕ) → well_formed s ≡ true → decoded_taken (decode_of w) s ≡ step_of s w
unfolding step_of word_outcome decoded_taken form_taken lowest record_of
decoded_step s w h = rw h (go (decode_of w))
  where
    taken : (f : Form) (t : Bool) → is_done (access_code s.state.settings.base (length s.state.tags) (access_of f s.state)) ≡ t
        → form_taken f s ≡ step_by (Some f) s
    taken f true k =
        rw (k, ← (form_outcome s.state f ((well_formed_lem s).0 h).0 k), form_entry f s.state)
    taken f false k = rw k

    go : (d : Option Form) → decoded_taken d s ≡ step_by d s
    go (Some f) = taken f (is_done (access_code s.state.settings.base (length s.state.tags) (access_of f s.state))) refl
    go None = refl

-- what a machine that is well formed tells of its cursor, its memory and its status
module _ (s : Simulation) (h : well_formed s ≡ true) where
  abbrev t : State
  t = s.state

  ok : sound t ≡ true
  ok = ((well_formed_lem s).0 h).0

  sized : Sized t.settings.base (length t.bytes) (length t.tags)
  sized = state_sized t.settings t.registers.status (length t.bytes) (length t.tags) ok

  pub cursor_placed : CursorPlaced (capacity s.history) s.history.cursor
  cursor_placed = placed (capacity s.history) s.history.cursor ((well_formed_lem s).0 h).1

  pub bytes_len : length t.bytes ≡ 16 * length t.tags
  bytes_len = sized.sixteen

  pub sizes : sizes_ok t.settings.base (16 * length t.tags) (length t.tags) ≡ true
  sizes = rw sized.sixteen at (state_sizes t.settings t.registers.status (length t.bytes) (length t.tags) ok)

  pub status_ranges : (t.registers.status.nzcv ≤ 15) × (t.registers.status.rgsr ≤ 15)
  status_ranges = state_status t.settings t.registers.status (length t.bytes) (length t.tags) ok

-- with no slots nothing is written
pub no_slots : (r : List ℕ) (h : History) → length h.words < 8 → h ≡ pushed r h
unfolding pushed
no_slots r h few = rw (eq-eqb (capacity h) 0 (omega arith))

-- a word taken, and a word refused
module _ (word : Simulation → Out Simulation) {s : Simulation} where
  pub took_done : {after x : Simulation} → word s ≡ done after → x ≡ after → Took (Ok tt) word s x
  took_done e same = record { same = ap done same ∙ sym e; kept = tt }

  pub took_refused : {code : Code} → word s ≡ refused code → Took (Err code) word s s
  took_refused e = record { same = sym e; kept = refl }

  -- a word that comes to the same
  pub took_as : (result : Result ⊤ Code) {other : Simulation → Out Simulation} {after : Simulation} → other s ≡ word s
      → Took result other s after → Took result word s after
  took_as result e t = record { same = t.same ∙ e; kept = t.kept }

pub took_undefined : (d : Option Form) {s : Simulation} → d ≡ None → Took (Err Undefined) (decoded_taken d) s s
unfolding decoded_taken
took_undefined d e = took_refused (decoded_taken d) (rw e)

-- a form that accesses no memory is carried out
pub took_form : (f : Form) (d : Option Form) {s after : Simulation} → access_of f s.state ≡ no_access → Some f ≡ d → after ≡ form_carried f s
    → Took (Ok tt) (decoded_taken d) s after
unfolding decoded_taken form_taken lowest
took_form f d a e same = took_done (decoded_taken d) (rw (← e, a)) same

-- a word taken is a step, which is not refused with DONE
module _ (s after : Simulation) (w : ℕ) (h : well_formed s ≡ true) where
  pub took_step : (result : Result ⊤ Code) → Took result (decoded_taken (decode_of w)) s after
      → returned (code_in result) 0 after ≡ answered s (step_of s w)
  took_step (Ok v) t = ap (answered s) (t.same ∙ decoded_step s w h)
  took_step (Err code) t = ap (returned code 0) t.kept ∙ ap (answered s) (t.same ∙ decoded_step s w h)

  pub took_refusal : (result : Result ⊤ Code) → Took result (decoded_taken (decode_of w)) s after → IfErr result (λ code. code ≢ Done)
  took_refusal (Ok v) t = tt
  took_refusal (Err code) t = λ e. refusal s w code (sym (t.same ∙ decoded_step s w h)) (ap code_number e)
