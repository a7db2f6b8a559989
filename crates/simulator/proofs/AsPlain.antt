-- A play from a well-formed start with an empty history is the plain machine's: by demand 3. Assumes nothing.
use Prim.Native.Nat.{ℕ}
use mathlib.Core.Bool.{Bool, true, false, cond}
use mathlib.Core.List.{List}
use mathlib.Core.Path.{◌≡◌, refl, ap, ◌∙◌}
use lib.ListN.{length}
use lib.Seq.{sets}
use Rattle.machine.specs.declared.Code.{Code}
use Rattle.machine.specs.State.{Typed}
use Rattle.std.specs.Prelude.{Result, is_ok}
use Rattle.simulator.specs.declared.playing.Call.{Call as Asked}
use Rattle.simulator.specs.declared.playing.PlayError.{PlayError}
use Rattle.execution.specs.Calls.{Call, Ended, calls}
use Rattle.simulator.specs.Demand3.{Agree, Demand3, plain_beside, plain_start}
use Rattle.simulator.specs.PlainMachine.{Plain}
use Rattle.simulator.specs.Playing.{AsPlain, Played, codes_of, counts_of, listed, on_state, play_of, play_result, played}
use Rattle.execution.specs.Simulation.{Simulation}
use Rattle.execution.specs.Steps.{simulator}
use Rattle.simulator.proofs.Demand3.{demand3}

module _ (start : Simulation) (asked : List Asked) (words : List ℕ) (codes : List Code) (counts : List ℕ) where
  abbrev list : List Call
  list = listed asked words

  abbrev result : Result ℕ PlayError
  result = play_result asked (length words) (length codes) (length counts)

  pub as_plain : (p : Played Simulation) → Typed start.state → p ≡ play_of simulator start asked words codes counts
      → AsPlain start asked words codes counts p
  unfolding AsPlain Demand3 play_of
  as_plain p typed e formed empty = ap (on_state (λ (s : Simulation). s.state)) e ∙ same (is_ok result)
    where
      agree : Agree (calls simulator start list) (calls (plain_beside start) (plain_start start) list)
      agree = demand3 start typed formed empty list

      written : {X : Type 0} → Ended X → Played X
      written e = played result (sets codes 0 (codes_of e.answers)) (sets counts 0 (counts_of e.answers)) e.final

      same : (b : Bool)
          → on_state (λ (s : Simulation). s.state) (cond b (written (calls simulator start list)) (played result codes counts start))
          ≡ on_state (λ (plain : Plain). plain.state) (cond b (written (calls (plain_beside start) (plain_start start) list)) (played result codes counts (plain_start start)))
      same true = λ i. written (record { answers = agree.answers i; final = agree.state i })
      same false = refl
