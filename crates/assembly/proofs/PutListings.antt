-- The lines of a listing, put in two runs: the nine, and in the part behind them those of the words. Assumes nothing.
use Prim.Native.Nat.{ℕ, zero, suc, ◌+◌, ◌-◌, ◌≤◌}
use mathlib.Core.List.{List, [], ◌∷◌, ◌++◌, append-nil}
use mathlib.Core.Path.{◌≡◌, refl, ap, sym, ◌∙◌}
use native.Mathlib.Nat.{zero-add}
use native.Mathlib.Omega.{arith}
use lib.ListN.{length, set, take, drop, drop_of_length-le, length-append, length-drop}
use lib.Seq.{length-sets, sets, take_all}
use Rattle.text.proofs.Writing.{after}
use Rattle.session_lines.specs.LineFormats.{lines_from}
use Rattle.session_lines.proofs.Lengths.{front_long}
use Rattle.listing.specs.Writing.{Written, listed_words, written}
use Rattle.assembly.specs.Listing.{defined_front, listing_of}
use Rattle.assembly.proofs.Listings.{listing_short, words_put}

sets_nil : (vs : List ℕ) (i : ℕ) → sets [] i vs ≡ []
sets_nil [] i = refl
sets_nil (v ∷ vs) i = sets_nil vs (suc i)

sets_cons : (vs : List ℕ) (x : ℕ) (l : List ℕ) (i : ℕ) → sets (x ∷ l) (suc i) vs ≡ x ∷ sets l i vs
sets_cons [] x l i = refl
sets_cons (v ∷ vs) x l i = sets_cons vs x (set l i v) (suc i)

-- a run of stores in the part that starts at a
sets_part : (a : ℕ) (l vs : List ℕ) → take a l ++ sets (drop a l) 0 vs ≡ sets l a vs
sets_part zero l vs = refl
sets_part (suc a) [] vs = rw (sets_nil vs 0, sets_nil vs (suc a))
sets_part (suc a) (x ∷ l) vs = rw (sets_cons vs x l a, sets_part a l vs)

module _ (front words : List ℕ) (nine : length front ≡ 9) (few : length words ≤ 256) where
  pub listing_room : length (lines_from 0 front ++ listing_of words) ≤ 25748
  listing_room = rw length-append (omega (arith, front_long front nine, listing_short words))

  module _ (all : defined_front words ≡ length words) (out out₁ : List ℕ) (room : 25748 ≤ length out) (at : ℕ)
      (place : at ≡ length (lines_from 0 front)) (put : out₁ ≡ sets out 0 (lines_from 0 front)) where
    long : length out₁ ≡ length out
    long = ap length put ∙ length-sets out 0 (lines_from 0 front)

    rest : length (drop at out₁) ≤ length out₁ - at
    rest = omega (arith, length-drop at out₁)

    fits : 0 + length (listing_of words) ≤ length (drop at out₁)
    fits = omega (arith, length-drop at out₁, long, front_long front nine, listing_short words)

    module _ (ys : List ℕ) (next code : ℕ) (e : written ys next code ≡ listed_words (written (take (length out₁ - at) (drop at out₁)) 0 0) words) where
      listed_there : written ys next code ≡ written (sets (drop at out₁) 0 (listing_of words)) (0 + length (listing_of words)) 0
      listed_there =
          e
          ∙ ap (λ (l : List ℕ). listed_words (written l 0 0) words) (take_all (length out₁ - at) (drop at out₁) rest)
          ∙ words_put (drop at out₁) 0 words all fits

      pub listing_long : at + next ≡ length (lines_from 0 front ++ listing_of words)
      listing_long =
          let size : next ≡ 0 + length (listing_of words) = ap (λ (w : Written). w.at) listed_there in
          let whole : length (lines_from 0 front ++ listing_of words) ≡ length (lines_from 0 front) + length (listing_of words) = simp length-append in
          omega arith

      pub listing_put : take at out₁ ++ (ys ++ drop (length out₁ - at) (drop at out₁)) ≡ sets out 0 (lines_from 0 front ++ listing_of words)
      listing_put =
          let bytes : ys ≡ sets (drop at out₁) 0 (listing_of words) = ap (λ (w : Written). w.bytes) listed_there in
          let start : at ≡ 0 + length (lines_from 0 front) = place ∙ sym (zero-add (length (lines_from 0 front))) in
          rw (drop_of_length-le (drop at out₁) rest, append-nil ys, bytes)
          (sets_part at out₁ (listing_of words)
          ∙ after out 0 (lines_from 0 front) (length (lines_from 0 front)) out₁ at (listing_of words) refl put start)
