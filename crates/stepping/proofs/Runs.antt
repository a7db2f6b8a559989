-- A run taken word by word. Assumes nothing.
use Prim.Native.Nat.{ℕ, suc, ◌+◌, ◌≤◌, ◌<◌}
use mathlib.Core.Bool.{true}
use mathlib.Core.List.{List, [], ◌∷◌}
use mathlib.Core.Path.{◌≡◌, refl, sym, ap, ◌∙◌}
use native.Mathlib.Nat.{add-suc, suc-add, add-zero, zero-add}
use native.Mathlib.Numerals.{add-one}
use lib.ListN.{length, drop, get_or, drop_of_length-le}
use lib.Seq.{drop-cons}
use Rattle.machine.specs.declared.Code.{Code}
use Rattle.machine.specs.declared.Code.TheVariants.{Done}
use Rattle.execution.specs.Calls.{Out, Returned, returned, refused, done, in_order}
use Rattle.execution.specs.Simulation.{Simulation, well_formed}
use Rattle.execution.specs.Steps.{step_of}
use Rattle.execution.proofs.Kept.{Kept, step_kept}

-- a run, where n words were done before

abbrev pub plus : {X : Type 0} → ℕ → Returned X → Returned X
plus n l = returned l.answer.code (n + l.answer.count) l.after

pub plus_zero : {X : Type 0} (l : Returned X) → plus 0 l ≡ l
plus_zero l = ap (λ (n : ℕ). returned l.answer.code n l.after) (zero-add l.answer.count)

module _ {X : Type 0} (step : X → ℕ → Out X) (i : ℕ) (x : X) where
  pub run_ends : plus i (in_order step x []) ≡ returned Done i x
  unfolding in_order
  run_ends = rw add-zero

  pub run_more : (y : X) (w : ℕ) (ws : List ℕ) → step x w ≡ done y → plus i (in_order step x (w ∷ ws)) ≡ plus (suc i) (in_order step y ws)
  unfolding in_order
  run_more y w ws e = rw (in_order, e, add-suc, suc-add)

  pub run_stops : (code : Code) (w : ℕ) (ws : List ℕ) → step x w ≡ refused code → plus i (in_order step x (w ∷ ws)) ≡ returned code i x
  unfolding in_order
  run_stops code w ws e = rw (in_order, e, add-zero)

module _ (words : List ℕ) (start : Simulation) where
  -- before the word at i, with i words done: what is left of the run is the run
  pub record Reached (i : ℕ) (s : Simulation) : Type 0 where
    pub formed : well_formed s ≡ true
    pub bytes : length s.state.bytes ≡ length start.state.bytes
    pub tags : length s.state.tags ≡ length start.state.tags
    pub history : length s.history.words ≡ length start.history.words
    pub rest : plus i (in_order step_of s (drop i words)) ≡ in_order step_of start words

  pub at_start : well_formed start ≡ true → Reached 0 start
  at_start h = record { formed = h; bytes = refl; tags = refl; history = refl; rest = plus_zero (in_order step_of start words) }

  module _ (i : ℕ) (s : Simulation) (reached : Reached i s) where
    pub at_end : length words ≤ i → returned Done i s ≡ in_order step_of start words
    at_end h =
        sym (run_ends step_of i s)
        ∙ ap (λ (ws : List ℕ). plus i (in_order step_of s ws)) (sym (drop_of_length-le words h))
        ∙ reached.rest

    module _ (inside : i < length words) where
      front : plus i (in_order step_of s (get_or words i 0 ∷ drop (suc i) words)) ≡ in_order step_of start words
      front = ap (λ (ws : List ℕ). plus i (in_order step_of s ws)) (sym (drop-cons words i 0 inside)) ∙ reached.rest

      pub at_refusal : (code : Code) → step_of s (get_or words i 0) ≡ refused code → returned code i s ≡ in_order step_of start words
      at_refusal code e = sym (run_stops step_of i s code (get_or words i 0) (drop (suc i) words) e) ∙ front

      pub one_on : (after : Simulation) → step_of s (get_or words i 0) ≡ done after → Reached (i + 1) after
      one_on after e =
          let k : Kept after s = step_kept s after (get_or words i 0) reached.formed e in
          record {
            formed = k.formed;
            bytes = k.shape.bytes ∙ reached.bytes;
            tags = k.shape.tags ∙ reached.tags;
            history = k.words ∙ reached.history;
            rest = rw add-one (sym (run_more step_of i s after (get_or words i 0) (drop (suc i) words) e) ∙ front);
          }
