-- The ring of slots undoes to the states whose records it holds, whatever they are, if each record undoes. Assumes nothing.
use Prim.Native.Nat.{ℕ, zero, suc, ◌+◌, ◌*◌, ◌-◌, ◌%◌, ◌≤◌, ◌<◌, suc-le-suc, zero-le}
use mathlib.Core.List.{List, [], ◌∷◌, ◌++◌, append_assoc}
use mathlib.Core.Logic.{◌≢◌}
use mathlib.Core.Path.{◌≡◌, refl, ap, sym, ◌∙◌}
use native.Mathlib.Decide.{dec_lt}
use native.Mathlib.Nat.{add-zero, le_refl, mod-add-mod, add-mod_right, mod-eq_of_lt, mod-eq-sub-mod}
use native.Mathlib.Omega.{arith}
use lib.ListN.{length, take, drop, set, length-take}
use lib.Seq.{sets, length-sets, sets-eq, take_at, drop_at, length-take-le, drop-set-add, take-set-le, drop-set-lt}
use Rattle.history.specs.Ring.{History, capacity, advanced, previous, retreated, pushed, newest, popped}
use Rattle.history.specs.Inside.Slots.{CursorPlaced}
use Rattle.history.proofs.Slots.{pushed_either}
use Rattle.execution.proofs.Cursors.{advanced_placed, retreated_placed}

-- slots

abbrev slot : ℕ → List ℕ → List ℕ
slot k ws = take 8 (drop (8 * k) ws)

below : (vs l : List ℕ) (n a i : ℕ) → a + n ≤ i → take n (drop a (sets l i vs)) ≡ take n (drop a l)
below [] l n a i h = refl
below (v ∷ vs) l n a i h =
    let e : i ≡ a + (i - a) = omega arith in
    below vs (set l i v) n a (suc i) (omega arith)
    ∙ ap (λ (k : ℕ). take n (drop a (set l k v))) e
    ∙ rw (drop-set-add a l (i - a) v) (take-set-le n (drop a l) (i - a) v (omega arith))

above : (vs l : List ℕ) (a i : ℕ) → i + length vs ≤ a → drop a (sets l i vs) ≡ drop a l
above [] l a i h = refl
above (v ∷ vs) l a i h = above vs (set l i v) a (suc i) (omega arith) ∙ drop-set-lt a l i v (omega arith)

slot_same : (k : ℕ) (ws r : List ℕ) → length r ≡ 8 → 8 * k + 8 ≤ length ws → slot k (sets ws (8 * k) r) ≡ r
slot_same k ws r e h =
    let i : ℕ = 8 * k in
    let rest : List ℕ = drop (i + length r) ws in
    rw (sets-eq r ws i (omega arith), append_assoc, drop_at (take i ws) (r ++ rest) i (length-take-le i ws (omega arith))) (take_at r rest 8 e)

slot_other : (j k : ℕ) (ws r : List ℕ) → length r ≡ 8 → j ≢ k → slot j (sets ws (8 * k) r) ≡ slot j ws
slot_other j k ws r e ne = go (dec_lt j k)
  where
    go : Dec (j < k) → slot j (sets ws (8 * k) r) ≡ slot j ws
    go (yes l) = below r ws 8 (8 * j) (8 * k) (omega arith)
    go (no l) = rw (above r ws (8 * j) (8 * k) (omega arith))

-- places around the ring of suc c slots

previous_up : (c k j : ℕ) → previous (suc c) ((k + suc j) % suc c) ≡ (k + j) % suc c
unfolding previous
previous_up c k j =
    mod-add-mod (k + suc j) (suc c) (suc c - 1)
    ∙ ap (λ (n : ℕ). n % suc c) (omega arith)
    ∙ add-mod_right (k + j) (suc c)

apart : (c k j : ℕ) → k < suc c → suc j ≤ c → (k + suc j) % suc c ≢ k
apart c k j h g e = go (dec_lt (k + suc j) (suc c))
  where
    go : Dec (k + suc j < suc c) → ⊥
    go (yes l) = let q : k + suc j ≡ k = sym (mod-eq_of_lt l) ∙ e in omega arith
    go (no l) =
        let q : k + suc j - suc c ≡ k = sym (mod-eq_of_lt (omega arith)) ∙ sym (mod-eq-sub-mod (omega arith)) ∙ e in
        omega arith

module _ {S : Type 0} (Undoing : List ℕ → S → S → Type 0) where
  -- with c slots and the cursor at n: at s the records undo to each of the copies in turn
  abbrev Backed : List ℕ → ℕ → ℕ → S → List S → Type 0
  Backed ws c n s [] = Unit {0}
  Backed ws c n s (k ∷ ks) = Undoing (slot (previous c n) ws) s k × Backed ws c (previous c n) k ks

  pub record Ringed (c : ℕ) (h : History) (s : S) (ks : List S) : Type 0 where
    pub size : capacity h ≡ c
    pub cursor : CursorPlaced c h.cursor
    pub held : h.cursor.held ≡ length ks
    pub backed : Backed h.words c h.cursor.next s ks

  -- a record written at slot k leaves the j newest of a cursor that is j + 1 above it
  keeps : (c k : ℕ) (ws r : List ℕ) → length r ≡ 8 → k < suc c → (j n : ℕ) (s : S) (ks : List S) → j ≤ c
      → n ≡ (k + suc j) % suc c → Backed ws (suc c) n s ks → Backed (sets ws (8 * k) r) (suc c) n s (take j ks)
  keeps c k ws r e b zero n s ks g q i = tt
  keeps c k ws r e b (suc j) n s [] g q i = tt
  keeps c k ws r e b (suc j) n s (x ∷ ks) g q i =
      let m : ℕ = previous (suc c) n in
      let d : m ≡ (k + suc j) % suc c = ap (previous (suc c)) q ∙ previous_up c k (suc j) in
      let other : slot m (sets ws (8 * k) r) ≡ slot m ws = slot_other m k ws r e (λ z. apart c k j b g (sym d ∙ z)) in
      (rw other i.0, keeps c k ws r e b j m x ks (omega arith) d i.1)

  pub ring_start : (h : History) (s : S) → CursorPlaced (capacity h) h.cursor → h.cursor.held ≡ 0 → Ringed (capacity h) h s []
  ring_start h s p e = record { size = refl; cursor = p; held = e; backed = tt }

  pub ring_push : (c : ℕ) (h : History) (s s' : S) (ks : List S) (r : List ℕ) → length r ≡ 8 → Undoing r s' s → Ringed c h s ks
      → Ringed c (pushed r h) s' (take c (s ∷ ks))
  unfolding advanced
  ring_push zero h s s' ks r e u i =
      pushed_either (λ g. Ringed 0 g s' []) r h
      (λ none. record { size = i.size; cursor = i.cursor; held = omega arith; backed = tt })
      (λ some. absurd (omega arith))
  ring_push (suc c) h s s' ks r e u i =
      pushed_either (λ g. Ringed (suc c) g s' (s ∷ take c ks)) r h
      (λ none. absurd (omega arith))
      (λ some.
      let n : ℕ = h.cursor.next in
      let b : n < suc c = omega arith in
      let here : previous (suc c) ((n + 1) % suc c) ≡ n = previous_up c n 0 ∙ rw add-zero (mod-eq_of_lt b) in
      let around : n ≡ (n + suc c) % suc c = sym (add-mod_right n (suc c) ∙ mod-eq_of_lt b) in
      rw i.size
      (record {
        size = rw length-sets i.size;
        cursor = advanced_placed (suc c) h.cursor (suc-le-suc zero-le);
        held = rw length-take (omega arith);
        backed = rw here (rw (slot_same n h.words r e (omega arith)) u, keeps c n h.words r e b c n s ks (le_refl c) around i.backed);
      }))

  pub ring_newest : (c : ℕ) (h : History) (s k : S) (ks : List S) → Ringed c h s (k ∷ ks) → Undoing (newest h) s k
  unfolding newest
  ring_newest c h s k ks i = rw i.size i.backed.0

  pub ring_pop : (c : ℕ) (h : History) (s k : S) (ks : List S) → Ringed c h s (k ∷ ks) → Ringed c (popped h) k ks
  unfolding popped retreated
  ring_pop c h s k ks i =
      record {
        size = i.size;
        cursor = rw i.size (retreated_placed c h.cursor (omega arith) i.cursor);
        held = omega arith;
        backed = rw i.size i.backed.1;
      }
