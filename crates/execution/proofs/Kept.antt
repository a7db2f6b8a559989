-- What a step keeps, and what a word that is taken comes to. Assumes nothing.
use Rattle.std.proofs.Common.{◌≡◌, ◌≢◌, ℕ, Bool, true, false, cond, ◌↔◌, List, [], ◌∷◌, length, sym, refl, ap, ◌∙◌, subst, arith}
use mathlib.Core.Bool.{and-eq-true_iff}
use borrow.Author.Tests.{eqb-false}
use Rattle.isa.specs.Decoding.{decode_of}
use Rattle.machine.specs.declared.Code.{Code}
use Rattle.machine.specs.declared.Code.TheVariants.{Done, Setup}
use Rattle.machine.specs.Codes.{code_number, is_done, lowest}
use Rattle.machine.specs.Setup.{sound, cursor_ok, setup_ok}
use Rattle.instructions.specs.WordOutcomes.{Outcome, word_outcome}
use Rattle.instructions.proofs.WellFormed.{SameShape, word_sound, word_keeps}
use Rattle.history.specs.Ring.{capacity, pushed}
use Rattle.history.specs.Recording.{record_of}
use Rattle.execution.specs.Calls.{Out, refused, done, Returned, returned, when_done, answered, one_more, in_order}
use Rattle.execution.specs.Simulation.{Simulation, well_formed}
use Rattle.execution.specs.Steps.{step_of, run_of}
use Rattle.execution.proofs.Cursors.{placed, placed_ok, pushed_words, pushed_placed}

-- well formed: a sound state, and a cursor that keeps its rule
pub well_formed_lem : (s : Simulation)
    → (well_formed s ≡ true) ↔ ((sound s.state ≡ true) × (cursor_ok (capacity s.history) s.history.cursor ≡ true))
unfolding well_formed setup_ok
well_formed_lem s = and-eq-true_iff (sound s.state) (cursor_ok (capacity s.history) s.history.cursor)

-- a call that is done was accepted
was_done : {X : Type 0} (code : Code) (after x : X) → when_done code after ≡ done x → after ≡ x
was_done code after x e = go (is_done code) e
  where
    go : (t : Bool) → cond t (done after) (refused code) ≡ done x → after ≡ x
    go true k = cc
    go false k = cc

-- a machine that is well formed, with the settings and the sizes of another
pub record Kept (after s : Simulation) : Type 0 where
  pub formed : well_formed after ≡ true
  pub shape : SameShape after.state s.state
  pub words : length after.history.words ≡ length s.history.words

pub step_kept : (s s' : Simulation) (w : ℕ) → well_formed s ≡ true → step_of s w ≡ done s' → Kept s' s
unfolding step_of
step_kept s s' w h e =
    let (ok, rule) = (well_formed_lem s).0 h in
    let o : Outcome = word_outcome true w s.state in
    let r : List ℕ = record_of (decode_of w) s.state in
    let after : Simulation = record { state = o.state; history = pushed r s.history } in
    let size : length after.history.words ≡ length s.history.words = pushed_words r s.history in
    let c : cursor_ok (capacity after.history) after.history.cursor ≡ true =
    rw size (placed_ok _ _ (pushed_placed r s.history (placed _ _ rule))) in
    subst (λ (x : Simulation). Kept x s) (was_done o.code after s' (rw h at e))
    (record { formed = (well_formed_lem after).1 (word_sound w s.state ok, c); shape = word_keeps w s.state ok; words = size })

pub step_keeps : (s s' : Simulation) (w : ℕ) → well_formed s ≡ true → step_of s w ≡ done s' → well_formed s' ≡ true
step_keeps s s' w h e = (step_kept s s' w h e).formed

-- no word is refused with DONE
pub refusal : (s : Simulation) (w : ℕ) (code : Code) → step_of s w ≡ refused code → code_number code ≡ 0 → ⊥
unfolding step_of
refusal s w code e z = go (is_done o.code) refl e
  where
    o : Outcome
    o = word_outcome (well_formed s) w s.state

    go : (t : Bool) → is_done o.code ≡ t
        → cond {A = Out Simulation} t (done (record { state = o.state; history = pushed (record_of (decode_of w) s.state) s.history })) (refused o.code) ≡ refused code → ⊥
    go true p k = let no : ◌≡◌ {A = ℕ} 0 1 = cc in omega arith
    go false p k = let q : o.code ≡ code = cc in eqb-false (code_number o.code) 0 p (ap code_number q ∙ z)

-- a word taken, by its code
module _ (s x : Simulation) (w : ℕ) where
  pub took_done : returned Done 0 x ≡ answered s (step_of s w) → step_of s w ≡ done x
  took_done k = go (step_of s w) refl k
    where
      go : (o : Out Simulation) → step_of s w ≡ o → returned Done 0 x ≡ answered s o → o ≡ done x
      go (done y) p q = ap done (sym (ap (λ (l : Returned Simulation). l.after) q))
      go (refused c) p q = absurd (refusal s w c p (ap (λ (l : Returned Simulation). code_number l.answer.code) (sym q)))

  pub took_refused : (code : Code) → code ≢ Done → returned code 0 x ≡ answered s (step_of s w) → (step_of s w ≡ refused code) × (x ≡ s)
  took_refused code n k = go (step_of s w) k
    where
      go : (o : Out Simulation) → returned code 0 x ≡ answered s o → (o ≡ refused code) × (x ≡ s)
      go (done y) q = absurd (n (ap (λ (l : Returned Simulation). l.answer.code) q))
      go (refused c) q =
          (ap refused (sym (ap (λ (l : Returned Simulation). l.answer.code) q)), ap (λ (l : Returned Simulation). l.after) q)

-- a machine that is not well formed refuses every word
pub ill_formed : (s : Simulation) (w : ℕ) → well_formed s ≡ false → step_of s w ≡ refused Setup
unfolding step_of word_outcome lowest
ill_formed s w h = rw h

-- the same code, and the same machine after it
abbrev pub SameCall : Returned Simulation → Returned Simulation → Type 0
SameCall l m = (l.answer.code ≡ m.answer.code) × (l.after ≡ m.after)

-- a run of one word is its step, but for the count
pub one_word : (s : Simulation) (w : ℕ) → SameCall (run_of s (w ∷ [])) (answered s (step_of s w))
unfolding run_of in_order
one_word s w = go (well_formed s) refl
  where
    first : (o : Out Simulation)
        → SameCall (elim o [ refused code ↦ returned code 0 s | done after ↦ one_more (returned Done 0 after) ]) (answered s o)
    first (refused code) = (refl, refl)
    first (done after) = (refl, refl)

    go : (t : Bool) → well_formed s ≡ t → SameCall (cond t (in_order step_of s (w ∷ [])) (returned Setup 0 s)) (answered s (step_of s w))
    go true h = first (step_of s w)
    go false h = rw (ill_formed s w h) (refl, refl)

-- so a run of one word answers for the step
pub one_step : (s : Simulation) (w : ℕ) (l : Returned Simulation) → l ≡ run_of s (w ∷ []) → returned l.answer.code 0 l.after ≡ answered s (step_of s w)
one_step s w l e = go (answered s (step_of s w)) (uncounted (step_of s w)) (one_word s w)
  where
    uncounted : (o : Out Simulation) → (answered s o).answer.count ≡ 0
    uncounted (refused code) = refl
    uncounted (done after) = refl

    go : (m : Returned Simulation) → m.answer.count ≡ 0 → SameCall (run_of s (w ∷ [])) m → returned l.answer.code 0 l.after ≡ m
    go m z same =
        let code = ap (λ (k : Returned Simulation). k.answer.code) e ∙ same.0 in
        let after = ap (λ (k : Returned Simulation). k.after) e ∙ same.1 in
        λ i. returned (code i) (sym z i) (after i)
