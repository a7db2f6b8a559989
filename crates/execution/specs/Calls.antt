-- Calls on a machine, one after the other (document 01, "The plain machine"): the same for our machine and the plain one.
use Rattle.std.specs.Prelude.{ℕ, suc, cond, List, [], ◌∷◌}
use Rattle.machine.specs.declared.Code.{Code}
use Rattle.machine.specs.declared.Code.TheVariants.{Done}
use Rattle.machine.specs.Codes.{is_done}

pub data Call : Type 0 where
  step_call : ℕ → Call
  run_call : List ℕ → Call
  back_call : Call

-- what a step or a step back comes to: a refusal, which changes nothing, or the machine after it
pub data Out (X : Type 0) : Type 0 where
  refused : Code → Out X
  done : X → Out X

abbrev pub when_done : {X : Type 0} → Code → X → Out X
when_done code after = cond (is_done code) (done after) (refused code)

-- a call's code, and its count: how many words a run did; 0 for a step or a step back
pub record Answer : Type 0 where
  pub code : Code
  pub count : ℕ

-- what a call returns: its answer, and the machine after it
pub record Returned (X : Type 0) : Type 0 where
  pub answer : Answer
  pub after : X

abbrev pub returned : {X : Type 0} → Code → ℕ → X → Returned X
returned code count after = record { answer = record { code = code; count = count }; after = after }

abbrev pub answered : {X : Type 0} → X → Out X → Returned X
answered before (refused code) = returned code 0 before
answered before (done after) = returned Done 0 after

-- one word more was done before the others
abbrev pub one_more : {X : Type 0} → Returned X → Returned X
one_more l = returned l.answer.code (suc l.answer.count) l.after

-- the words are steps in order up to the first refused one; the code is that one's, or 0 if there is none; the count is how many
-- had code 0
unfoldable pub in_order : {X : Type 0} → (X → ℕ → Out X) → X → List ℕ → Returned X
in_order step before [] = returned Done 0 before
in_order step before (w ∷ ws) = elim (step before w) [ refused code ↦ returned code 0 before | done after ↦ one_more (in_order step after ws) ]

-- a machine that takes calls
pub record Callable (X : Type 0) : Type 0 where
  pub step : X → ℕ → Out X
  pub run : X → List ℕ → Returned X
  pub back : X → Out X

unfoldable pub call : {X : Type 0} → Callable X → X → Call → Returned X
call m before (step_call w) = answered before (m.step before w)
call m before (run_call ws) = m.run before ws
call m before back_call = answered before (m.back before)

-- the answers to a list of calls, and the machine after it
pub record Ended (X : Type 0) : Type 0 where
  pub answers : List Answer
  pub final : X

abbrev pub and_then : {X : Type 0} → Answer → Ended X → Ended X
and_then a e = record { answers = a ∷ e.answers; final = e.final }

-- each call gets the machine as the last one left it
unfoldable pub calls : {X : Type 0} → Callable X → X → List Call → Ended X
calls m before [] = record { answers = []; final = before }
calls m before (c ∷ cs) = and_then (call m before c).answer (calls m (call m before c).after cs)
