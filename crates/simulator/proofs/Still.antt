-- A machine that gives every step its right code and never moves fails demand 3. Assumes nothing.
use Prim.Native.Nat.{ℕ, zero, suc, ◌^◌, ◌<◌}
use mathlib.Core.Bool.{true}
use mathlib.Core.List.{[], ◌∷◌}
use mathlib.Core.Path.{◌≡◌, refl, ap}
use native.Mathlib.Omega.{arith}
use lib.ListN.{get_or, replicate}
use Rattle.bits.specs.LittleEndian.{low_bytes}
use Rattle.isa.specs.Decoding.{decode_of, form_of, forms_at}
use Rattle.tag.specs.TagChoice.{chosen, skip, walk}
use Rattle.memory.specs.Locations.{all_inside}
use Rattle.memory.specs.Sizes.{sizes_ok}
use Rattle.machine.specs.declared.Code.TheVariants.{NoHistory}
use Rattle.machine.specs.Setup.{state_ok, setup_ok, cursor_ok, sound}
use Rattle.machine.specs.State.{State, Typed}
use Rattle.machine.specs.Codes.{lowest}
use Rattle.instructions.specs.WordOutcomes.{word_outcome}
use Rattle.instructions.specs.Edges.{p1}
use Rattle.execution.specs.Calls.{Callable, Out, refused, when_done, in_order, call, calls, step_call}
use Rattle.simulator.specs.Demand3.{Demand3}
use Rattle.simulator.specs.PlainMachine.{plain_step}
use Rattle.execution.specs.Simulation.{Simulation, well_formed}

unfoldable pub still_step : Simulation → ℕ → Out Simulation
still_step s w = when_done (word_outcome (sound s.state) w s.state).code s

unfoldable pub still : Callable Simulation
still = record { step = still_step; run = in_order still_step; back = λ s. refused NoHistory }

-- P1's start, with no history
abbrev start : Simulation
start = record { state = p1 0; history = record { words = []; cursor = record { next = 0; held = 0 } } }

formed : well_formed start ≡ true
unfolding well_formed setup_ok state_ok sizes_ok cursor_ok
formed = refl

zeros : (n i : ℕ) → get_or (replicate n 0) i 0 < 2 ^ 8
zeros zero i = omega arith
zeros (suc n) zero = omega arith
zeros (suc n) (suc i) = zeros n i

typed : Typed start.state
typed = record { seed = omega arith; bytes = zeros 64; tags = zeros 4 }

pub still_fails : Demand3 still → ⊥
unfolding Demand3 calls call still still_step plain_step low_bytes decode_of form_of forms_at chosen skip walk all_inside sizes_ok state_ok lowest word_outcome
still_fails d =
    let a = (d start typed formed refl (step_call 0x91810420 ∷ [])).state in
    let e : ◌≡◌ {A = ℕ} 0 0x0300000000001010 = ap (λ (s : State). get_or s.registers.x 0 0) a in
    omega (arith, e)
