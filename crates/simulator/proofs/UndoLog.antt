-- A machine that logs how to undo its words answers every list of calls as one that stacks copies of its state. Assumes nothing.
use Prim.Native.Nat.{ℕ}
use mathlib.Core.Bool.{Bool, true, false, cond}
use mathlib.Core.List.{List, [], ◌∷◌}
use mathlib.Core.Path.{◌≡◌, refl}
use Rattle.machine.specs.declared.Code.{Code}
use Rattle.machine.specs.declared.Code.TheVariants.{NoHistory}
use Rattle.machine.specs.Codes.{is_done}
use Rattle.execution.specs.Calls.{Call, refused, done, when_done, in_order, Callable, calls}
use Rattle.simulator.proofs.Alike.{OutAlike, ReturnedAlike, EndedAlike, in_order_alike, calls_alike}

-- What a state, a log and a copy are is not known here: a log has to keep the laws of `UndoLog`, whatever its layout.

-- what the rules give a word on a state that breaks none: its code, and the state after it
pub record Rules (S : Type 0) : Type 0 where
  pub code : S → ℕ → Code
  pub after : S → ℕ → S

-- a machine that stacks copies, newest first; a word may make the oldest go
pub record Stacking {S Y : Type 0} (rules : Rules S) (K : Type 0) (plain : Callable Y) : Type 0 where
  pub holding : S → List K → Y
  pub pile : S → ℕ → List K → List K
  pub copied : K → S
  pub steps : (s : S) (ks : List K) (w : ℕ)
      → plain.step (holding s ks) w ≡ when_done (rules.code s w) (holding (rules.after s w) (pile s w ks))
  pub runs : (y : Y) (ws : List ℕ) → plain.run y ws ≡ in_order plain.step y ws
  pub none : (s : S) → plain.back (holding s []) ≡ refused NoHistory
  pub newest : (s : S) (k : K) (ks : List K) → plain.back (holding s (k ∷ ks)) ≡ done (holding (copied k) ks)

-- a machine that logs, as long as no rule of its setup is broken
pub record Logging {S X : Type 0} (rules : Rules S) (L : Type 0) (ours : Callable X) : Type 0 where
  pub joined : S → L → X
  pub formed : S → L → Bool
  pub push : S → ℕ → L → L
  pub steps : (s : S) (l : L) (w : ℕ) → formed s l ≡ true
      → ours.step (joined s l) w ≡ when_done (rules.code s w) (joined (rules.after s w) (push s w l))
  pub runs : (s : S) (l : L) (ws : List ℕ) → formed s l ≡ true → ours.run (joined s l) ws ≡ in_order ours.step (joined s l) ws

module _ {S X Y L K : Type 0} {rules : Rules S} {ours : Callable X} {plain : Callable Y}
    (logs : Logging rules L ours) (stacks : Stacking rules K plain) where
  -- a step back gives the copy k, and a log that undoes to the older ones
  pub record Popped (Undoes : S → L → List K → Type 0) (s : S) (l : L) (k : K) (ks : List K) : Type 0 where
    pub rest : L
    pub back : ours.back (logs.joined s l) ≡ done (logs.joined (stacks.copied k) rest)
    pub undoes : Undoes (stacks.copied k) rest ks

  -- the laws that a log has to keep. `Start`: what is asked of the start. `Undoes s l ks`: no rule of the setup is broken, and at the state s
  -- the log l undoes to each of the copies ks in turn, and to no more.
  pub record UndoLog (Start : S → L → Type 0) : Type 1 where
    pub Undoes : S → L → List K → Type 0
    pub starts : (s : S) (l : L) → Start s l → Undoes s l []
    pub holds : (s : S) (l : L) (ks : List K) → Undoes s l ks → logs.formed s l ≡ true
    pub pushes : (s : S) (l : L) (ks : List K) (w : ℕ) → Undoes s l ks → is_done (rules.code s w) ≡ true
        → Undoes (rules.after s w) (logs.push s w l) (stacks.pile s w ks)
    pub empty : (s : S) (l : L) → Undoes s l [] → ours.back (logs.joined s l) ≡ refused NoHistory
    pub pops : (s : S) (l : L) (k : K) (ks : List K) → Undoes s l (k ∷ ks) → Popped Undoes s l k ks

  module _ {Start : S → L → Type 0} (laws : UndoLog Start) where
    -- both machines at one state, with a log that undoes to the copies
    pub data Beside : X → Y → Type 0 where
      beside : (s : S) (l : L) (ks : List K) → laws.Undoes s l ks → Beside (logs.joined s l) (stacks.holding s ks)

    step_alike : (x : X) (y : Y) (w : ℕ) → Beside x y → OutAlike Beside (ours.step x w) (plain.step y w)
    step_alike x y w (beside s l ks u) =
        rw (logs.steps s l w (laws.holds s l ks u), stacks.steps s ks w) (go (is_done (rules.code s w)) refl)
      where
        go : (t : Bool) → is_done (rules.code s w) ≡ t
            → OutAlike Beside (cond t (done (logs.joined (rules.after s w) (logs.push s w l))) (refused (rules.code s w)))
            (cond t (done (stacks.holding (rules.after s w) (stacks.pile s w ks))) (refused (rules.code s w)))
        go true e = beside (rules.after s w) (logs.push s w l) (stacks.pile s w ks) (laws.pushes s l ks w u e)
        go false e = refl

    run_alike : (x : X) (y : Y) (ws : List ℕ) → Beside x y → ReturnedAlike Beside (ours.run x ws) (plain.run y ws)
    run_alike x y ws (beside s l ks u) =
        rw (logs.runs s l ws (laws.holds s l ks u), stacks.runs (stacks.holding s ks) ws)
        (in_order_alike Beside ours.step plain.step step_alike ws _ _ (beside s l ks u))

    back_alike : (x : X) (y : Y) → Beside x y → OutAlike Beside (ours.back x) (plain.back y)
    back_alike x y (beside s l [] u) = rw (laws.empty s l u, stacks.none s)
    back_alike x y (beside s l (k ∷ ks) u) =
        let p = laws.pops s l k ks u in
        rw (p.back, stacks.newest s k ks) (beside (stacks.copied k) p.rest ks p.undoes)

    -- every list of calls, from a state with an empty log beside the same state with no copy
    pub calls_beside : (s : S) (l : L) → Start s l → (list : List Call)
        → EndedAlike Beside (calls ours (logs.joined s l) list) (calls plain (stacks.holding s []) list)
    calls_beside s l start list =
        calls_alike Beside ours plain (record { step = step_alike; run = run_alike; back = back_alike }) list _ _
        (beside s l [] (laws.starts s l start))
