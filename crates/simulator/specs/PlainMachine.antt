-- The plain machine, a term of document 01 ("The plain machine"): it knows no history and stacks whole copies of its state.
use Rattle.std.specs.Prelude.{ℕ, List, [], ◌∷◌, take}
use Rattle.machine.specs.declared.Code.TheVariants.{NoHistory}
use Rattle.machine.specs.State.{State}
use Rattle.machine.specs.Setup.{sound}
use Rattle.instructions.specs.WordOutcomes.{Outcome, word_outcome}
use Rattle.execution.specs.Calls.{Out, refused, done, Callable, when_done, in_order}

-- its state, and the copies, newest first
pub record Plain : Type 0 where
  pub state : State
  pub copies : List State

-- its code is what the rules give the word on this state; at code 0 a copy goes on the stack, the oldest is dropped if there are
-- more than c, and the word is carried out
unfoldable pub plain_step : ℕ → Plain → ℕ → Out Plain
plain_step c p w =
    let o : Outcome = word_outcome (sound p.state) w p.state in
    when_done o.code (record { state = o.state; copies = take c (p.state ∷ p.copies) })

-- with no copy code 6; otherwise the newest copy leaves the stack and becomes the state
unfoldable pub plain_back : List State → Out Plain
plain_back [] = refused NoHistory
plain_back (newest ∷ older) = done (record { state = newest; copies = older })

-- with room for c copies
abbrev pub plain_machine : ℕ → Callable Plain
plain_machine c = record { step = plain_step c; run = in_order (plain_step c); back = λ p. plain_back p.copies }
