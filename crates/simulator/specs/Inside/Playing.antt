-- A list of calls that is not refused: what it is lent, and what it leaves.
use Rattle.std.specs.Prelude.{ℕ, ◌≤◌, List, ◌≡◌, length}
use Rattle.std.proofs.lemmas.List.Edits.{sets}
use Rattle.machine.specs.declared.Code.{Code}
use Rattle.execution.specs.Calls.{calls}
use Rattle.simulator.specs.declared.playing.Call.{Call}
use Rattle.simulator.specs.Playing.{all_taken, codes_of, counts_of, listed}
use Rattle.execution.specs.Simulation.{Simulation}
use Rattle.execution.specs.Steps.{simulator}

-- so many words, places for codes and places for counts are enough
pub record Lent (list : List Call) (w k n : ℕ) : Type 0 where
  pub words : all_taken list ≤ w
  pub codes : length list ≤ k
  pub counts : length list ≤ n

-- the list played: its answers written from the first place on, and the machine after it; what it left is primed
pub record Wrote (before : Simulation) (list : List Call) (words : List ℕ) (codes : List Code) (counts : List ℕ) (codes' : List Code)
    (counts' : List ℕ) (after : Simulation) : Type 0 where
  pub codes_written : codes' ≡ sets codes 0 (codes_of (calls simulator before (listed list words)).answers)
  pub counts_written : counts' ≡ sets counts 0 (counts_of (calls simulator before (listed list words)).answers)
  pub final : after ≡ (calls simulator before (listed list words)).final
