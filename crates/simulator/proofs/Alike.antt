-- Two machines whose calls keep a relation answer every list of calls alike. Assumes nothing.
use Prim.Native.Nat.{ℕ, suc}
use mathlib.Core.List.{List, [], ◌∷◌}
use mathlib.Core.Path.{◌≡◌, refl, ap, subst}
use Rattle.machine.specs.declared.Code.{Code}
use Rattle.execution.specs.Calls.{Call, step_call, run_call, back_call, Out, refused, done, Answer, Returned, returned, answered, one_more, in_order, Callable, call, Ended, calls}

module _ {X Y : Type 0} (R : X → Y → Type 0) where
  -- both are refused with one code, or both are done and keep the relation
  abbrev pub OutAlike : Out X → Out Y → Type 0
  OutAlike (refused code) (refused code') = code ≡ code'
  OutAlike (refused code) (done y) = ⊥
  OutAlike (done x) (refused code) = ⊥
  OutAlike (done x) (done y) = R x y

  pub record ReturnedAlike (a : Returned X) (b : Returned Y) : Type 0 where
    pub answer : a.answer ≡ b.answer
    pub after : R a.after b.after

  pub record EndedAlike (a : Ended X) (b : Ended Y) : Type 0 where
    pub answers : a.answers ≡ b.answers
    pub final : R a.final b.final

  pub record CallsAlike (m : Callable X) (n : Callable Y) : Type 0 where
    pub step : (x : X) (y : Y) (w : ℕ) → R x y → OutAlike (m.step x w) (n.step y w)
    pub run : (x : X) (y : Y) (ws : List ℕ) → R x y → ReturnedAlike (m.run x ws) (n.run y ws)
    pub back : (x : X) (y : Y) → R x y → OutAlike (m.back x) (n.back y)

  -- by cases
  either : (P : Out X → Out Y → Type 0) → ((code : Code) → P (refused code) (refused code))
      → ((x : X) (y : Y) → R x y → P (done x) (done y)) → (a : Out X) (b : Out Y) → OutAlike a b → P a b
  either P f g (refused code) (refused code') e = subst (λ (c : Code). P (refused code) (refused c)) e (f code)
  either P f g (refused code) (done y) e = absurd e
  either P f g (done x) (refused code) e = absurd e
  either P f g (done x) (done y) r = g x y r

  pub in_order_alike : (f : X → ℕ → Out X) (g : Y → ℕ → Out Y) → ((x : X) (y : Y) (w : ℕ) → R x y → OutAlike (f x w) (g y w))
      → (ws : List ℕ) (x : X) (y : Y) → R x y → ReturnedAlike (in_order f x ws) (in_order g y ws)
  unfolding in_order
  in_order_alike f g step [] x y r = record { answer = refl; after = r }
  in_order_alike f g step (w ∷ ws) x y r =
      either
      (λ a b.
      ReturnedAlike (elim a [ refused code ↦ returned code 0 x | done after ↦ one_more (in_order f after ws) ])
      (elim b [ refused code ↦ returned code 0 y | done after ↦ one_more (in_order g after ws) ]))
      (λ code. record { answer = refl; after = r })
      (λ x' y' r'.
      let rest = in_order_alike f g step ws x' y' r' in
      record { answer = ap (λ (a : Answer). record { code = a.code; count = suc a.count }) rest.answer; after = rest.after })
      (f x w) (g y w) (step x y w r)

  answered_alike : (x : X) (y : Y) → R x y → (a : Out X) (b : Out Y) → OutAlike a b → ReturnedAlike (answered x a) (answered y b)
  answered_alike x y r =
      either (λ a b. ReturnedAlike (answered x a) (answered y b)) (λ code. record { answer = refl; after = r })
      (λ x' y' r'. record { answer = refl; after = r' })

  module _ (m : Callable X) (n : Callable Y) (alike : CallsAlike m n) where
    call_alike : (c : Call) (x : X) (y : Y) → R x y → ReturnedAlike (call m x c) (call n y c)
    unfolding call
    call_alike (step_call w) x y r = answered_alike x y r (m.step x w) (n.step y w) (alike.step x y w r)
    call_alike (run_call ws) x y r = alike.run x y ws r
    call_alike back_call x y r = answered_alike x y r (m.back x) (n.back y) (alike.back x y r)

    pub calls_alike : (cs : List Call) (x : X) (y : Y) → R x y → EndedAlike (calls m x cs) (calls n y cs)
    unfolding calls
    calls_alike [] x y r = record { answers = refl; final = r }
    calls_alike (c ∷ cs) x y r =
        let first = call_alike c x y r in
        let rest = calls_alike cs (call m x c).after (call n y c).after first.after in
        record { answers = cc (first.answer, rest.answers); final = rest.final }
