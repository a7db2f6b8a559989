-- Laws of `sets`, a run of stores: in a part, one run after another, and a run taken back. Assumes nothing.
use Rattle.std.proofs.Common.{◌≡◌, sym, ℕ, zero, suc, ◌+◌, ◌-◌, ◌≤◌, List, [], ◌∷◌, ◌++◌, length, take, drop, set, refl, ◌∙◌, append-nil, zero-le, le_refl, le_of_suc-le-suc, not-suc-le-zero, add-zero, add-suc, suc-add, zero-add, length-drop, drop_of_length-le, take_all, drop-drop, append_assoc, length-take-le, replicate, arith}
use lib.ListN.{length-replicate}
use lib.Seq.{sets, sets-eq}
use borrow.Rule.Slice.PartMut.{put_mid}

module _ {A : Type 0} where
  sets_nil : (vs : List A) (i : ℕ) → sets [] i vs ≡ []
  sets_nil [] i = refl
  sets_nil (v ∷ vs) i = sets_nil vs (suc i)

  sets_cons : (vs : List A) (x : A) (l : List A) (i : ℕ) → sets (x ∷ l) (suc i) vs ≡ x ∷ sets l i vs
  sets_cons [] x l i = refl
  sets_cons (v ∷ vs) x l i = sets_cons vs x (set l i v) (suc i)

  -- a run of stores from a on is one from 0 on in the part that starts at a
  pub sets_part : (a : ℕ) (l vs : List A) → take a l ++ sets (drop a l) 0 vs ≡ sets l a vs
  sets_part zero l vs = refl
  sets_part (suc a) [] vs = rw (sets_nil vs 0, sets_nil vs (suc a))
  sets_part (suc a) (x ∷ l) vs = rw (sets_cons vs x l a, sets_part a l vs)

  -- what a part that starts at a comes back as, lent for a run of stores
  pub back_part : (a : ℕ) (l ys vs : List A) → ys ≡ sets (take (length l - a) (drop a l)) 0 vs
      → take a l ++ (ys ++ drop (length l - a) (drop a l)) ≡ sets l a vs
  back_part a l ys vs e =
      let all : length (drop a l) ≤ length l - a = rw length-drop (le_refl (length l - a)) in
      rw (drop_of_length-le (drop a l) all, append-nil ys, e, take_all (length l - a) (drop a l) all) (sets_part a l vs)

  -- and what the part comes back as that a run fills
  pub filled_part : (a n : ℕ) (l ys vs : List A) → ys ≡ vs → length vs ≡ n → a + n ≤ length l → put_mid a n l ys ≡ sets l a vs
  filled_part a n l ys vs e k h = rw (e, sets-eq vs l a (rw k h), k, drop-drop n a l) (sym (append_assoc (take a l) vs (drop (a + n) l)))

  -- a part filled with one value
  pub filled : (a n : ℕ) (l ys : List A) (v : A) → ys ≡ replicate (length (take n (drop a l))) v → a + n ≤ length l
      → put_mid a n l ys ≡ sets l a (replicate n v)
  filled a n l ys v e h =
      let k : length (take n (drop a l)) ≡ n = length-take-le n (drop a l) (rw length-drop (omega arith)) in
      filled_part a n l ys (replicate n v) (rw k at e) (length-replicate n v) h

  -- two runs, one after the other
  pub sets_append : (us l : List A) (i : ℕ) (vs : List A) → sets l i (us ++ vs) ≡ sets (sets l i us) (i + length us) vs
  sets_append [] l i vs = rw add-zero
  sets_append (u ∷ us) l i vs = rw (add-suc, ← suc-add) (sets_append us (set l i u) (suc i) vs)

  -- a run, and one in the lent part that starts where it ends
  pub back_append : (n : ℕ) (l us vs xs ys : List A) → length us ≡ n → xs ≡ sets l 0 us
      → ys ≡ sets (take (length xs - n) (drop n xs)) 0 vs
      → take n xs ++ (ys ++ drop (length xs - n) (drop n xs)) ≡ sets l 0 (us ++ vs)
  back_append n l us vs xs ys e f g = back_part n xs ys vs g ∙ rw (f, sets_append us l 0 vs, zero-add, e)

  -- a run taken back by storing what was there, and perhaps more of it
  pub sets_back : (i m : ℕ) (l vs : List A) → length vs ≤ m → sets (sets l i vs) i (take m (drop i l)) ≡ l
  sets_back i m [] vs h = rw (sets_nil vs i) (sets_nil (take m (drop i [])) i)
  sets_back zero zero (x ∷ l) [] h = refl
  sets_back zero zero (x ∷ l) (v ∷ vs) h = absurd (not-suc-le-zero h)
  sets_back zero (suc m) (x ∷ l) [] h = rw (sets_cons (take m l) x l 0, sets_back zero m l [] zero-le)
  sets_back zero (suc m) (x ∷ l) (v ∷ vs) h =
      rw (sets_cons vs v l 0, sets_cons (take m l) x (sets l 0 vs) 0, sets_back zero m l vs (le_of_suc-le-suc h))
  sets_back (suc i) m (x ∷ l) vs h =
      rw (sets_cons vs x l i, sets_cons (take m (drop i l)) x (sets l i vs) i, sets_back i m l vs h)
