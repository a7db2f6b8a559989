-- What a session's run comes to fits the digits that it is printed in. Assumes nothing.
use Prim.Native.Nat.{ℕ, suc, ◌≤◌, ◌<◌, zero-le}
use mathlib.Core.Bool.{Bool, true, false, cond}
use mathlib.Core.List.{List, [], ◌∷◌}
use mathlib.Core.Path.{◌≡◌, refl}
use native.Mathlib.Omega.{arith}
use lib.ListN.{length, drop, length-drop}
use Rattle.machine.specs.declared.Code.{Code}
use Rattle.machine.specs.declared.Code.TheVariants.{Done, Setup, Undefined, SpAlign, Align, Outside, NoHistory, BadRecord, Field}
use Rattle.machine.specs.Codes.{code_number}
use Rattle.machine.proofs.Rules.{setup_state, state_status}
use Rattle.execution.specs.Calls.{Returned, Out, refused, done, in_order, returned, one_more}
use Rattle.execution.specs.Simulation.{Simulation, machine_of, well_formed}
use Rattle.execution.specs.Steps.{run_of, step_of}
use Rattle.execution.proofs.Kept.{step_keeps}
use Rattle.session_lines.specs.Laws.{OnlyGoodIsRead}
use Rattle.session_text.specs.Laws.{NothingIsCut, Printable}
use Rattle.session_text.specs.Run.{machine_for, ran_of, simulation_of, start_of}
use Rattle.session_lines.proofs.OnlyGoodSessions.{only_good_is_read}

code_small : (code : Code) → code_number code < 16
code_small Done = omega arith
code_small Setup = omega arith
code_small Undefined = omega arith
code_small SpAlign = omega arith
code_small Align = omega arith
code_small Outside = omega arith
code_small NoHistory = omega arith
code_small BadRecord = omega arith
code_small Field = omega arith

-- a run does no more words than there are, and leaves a well-formed machine well formed
record Kept (most : ℕ) (ran : Returned Simulation) : Type 0 where
  few : ran.answer.count ≤ most
  formed : well_formed ran.after ≡ true

one_kept : (s : Simulation) (w : ℕ) (ws : List ℕ) → well_formed s ≡ true
    → ((after : Simulation) → well_formed after ≡ true → Kept (length ws) (in_order step_of after ws)) → (o : Out Simulation) → step_of s w ≡ o
    → Kept (suc (length ws)) (elim o [ refused code ↦ returned code 0 s | done after ↦ one_more (in_order step_of after ws) ])
one_kept s w ws h rest (refused code) e = record { few = zero-le; formed = h }
one_kept s w ws h rest (done after) e =
    let others = rest after (step_keeps s after w h e) in
    record { few = omega (arith, others.few); formed = others.formed }

run_kept : (s : Simulation) (ws : List ℕ) → well_formed s ≡ true → Kept (length ws) (in_order step_of s ws)
unfolding in_order
run_kept s [] h = record { few = zero-le; formed = h }
run_kept s (w ∷ ws) h = one_kept s w ws h (λ after k. run_kept after ws k) (step_of s w) refl

formed_flags : (s : Simulation) → well_formed s ≡ true → s.state.registers.status.nzcv ≤ 15
unfolding well_formed
formed_flags s h = (state_status _ _ _ _ (setup_state (machine_of s) _ _ _ h)).0

abbrev start : List ℕ → Simulation
start v = simulation_of (start_of v)

module _ (v : List ℕ) (few : length (drop 9 v) ≤ 256) where
  by_setup : (b : Bool) → well_formed (start v) ≡ b → Printable (cond b (in_order step_of (start v) (drop 9 v)) (returned Setup 0 (start v)))
  unfolding simulation_of machine_for
  by_setup true h =
      let ran = run_kept (start v) (drop 9 v) h in
      let flags = formed_flags (in_order step_of (start v) (drop 9 v)).after ran.formed in
      record { count = omega (arith, ran.few); code = code_small (in_order step_of (start v) (drop 9 v)).answer.code; nzcv = omega arith }
  by_setup false h = record { count = omega arith; code = omega arith; nzcv = omega arith }

pub nothing_is_cut : NothingIsCut
unfolding NothingIsCut OnlyGoodIsRead ran_of run_of
nothing_is_cut s v e =
    let most = (only_good_is_read s v e).0.most in
    by_setup v (omega (arith, length-drop 9 v, most)) (well_formed (start v)) refl
