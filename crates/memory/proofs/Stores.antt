-- Laws of what stores write: its length, and that what was there, stored again, gives the old list. Assumes nothing.
use Rattle.std.proofs.Common.{◌≡◌, ℕ, zero, suc, ◌+◌, ◌*◌, ◌<◌, ◌≤◌, List, [], ◌∷◌, ◌++◌, length, get_or, take, drop, sym, refl, ◌∙◌, add-one, arith, length-append, length-drop, length-take-le, get_or-drop, take_all, drop-cons, drop-drop, take_at, take-add}
use lib.Seq.{sets}
use Rattle.bits.specs.LittleEndian.{bytes_of, word_from}
use Rattle.bits.proofs.LittleEndian.{low_bytes_length, low_bytes_from}
use Rattle.memory.specs.Stores.{pair_bytes, saved_bytes, saved_tags}
use Rattle.memory.proofs.Lists.{sets_back}

pub pair_length : (low high : ℕ) → length (pair_bytes low high) ≡ 16
pair_length low high = rw (length-append, low_bytes_length 8 low, low_bytes_length 8 high)

-- the data

take_bytes : (n : ℕ) (l : List ℕ) → ((i : ℕ) → get_or l i 0 < 256) → (i : ℕ) → get_or (take n l) i 0 < 256
take_bytes zero l small i = omega arith
take_bytes (suc n) [] small i = small i
take_bytes (suc n) (b ∷ l) small zero = small 0
take_bytes (suc n) (b ∷ l) small (suc i) = take_bytes n l (λ k. small (suc k)) i

drop_first : (at : ℕ) (l : List ℕ) → at + 1 ≤ length l → take 1 (drop at l) ≡ get_or l at 0 ∷ []
drop_first at l h = rw (drop-cons l at 0 (omega arith))

drop_two : (at : ℕ) (l : List ℕ) → at + 2 ≤ length l → take 2 (drop at l) ≡ get_or l at 0 ∷ get_or l (at + 1) 0 ∷ []
drop_two at l h = rw (drop-cons l at 0 (omega arith), drop-cons l (suc at) 0 (omega arith), add-one)

module _ (l : List ℕ) (small : (i : ℕ) → get_or l i 0 < 256) where
  saved_word : (at : ℕ) → at + 8 ≤ length l → bytes_of (word_from (drop at l)) ≡ take 8 (drop at l)
  saved_word at h =
      let part = take 8 (drop at l) in
      let e : length part ≡ 8 = length-take-le 8 (drop at l) (rw length-drop (omega arith)) in
      rw e at (low_bytes_from part (take_bytes 8 (drop at l) (λ i. rw get_or-drop (small (at + i)))))

  saved_pair : (at : ℕ) → at + 16 ≤ length l → pair_bytes (word_from (drop at l)) (word_from (drop (at + 8) l)) ≡ take 16 (drop at l)
  saved_pair at h =
      rw (saved_word at (omega arith), saved_word (at + 8) (omega arith), ← drop-drop 8 at l) (sym (take-add 8 8 (drop at l)))

-- two words saved are a granule's, and four are those of two

pub one_saved : (a b c d : ℕ) → saved_bytes 1 a b c d ≡ pair_bytes a b
one_saved a b c d = take_at (pair_bytes a b) (pair_bytes c d) 16 (pair_length a b)

pub two_saved : (a b c d : ℕ) → saved_bytes 2 a b c d ≡ pair_bytes a b ++ pair_bytes c d
two_saved a b c d =
    take_all 32 (pair_bytes a b ++ pair_bytes c d) (rw (length-append, pair_length a b, pair_length c d) (omega arith))

-- the words of n granules, saved before a store and stored after it
module _ (at : ℕ) (l vs : List ℕ) (small : (i : ℕ) → get_or l i 0 < 256) where
  abbrev word : ℕ → ℕ
  word k = word_from (drop (at + k) l)

  pub data_back : (n c d : ℕ) → n ≤ 2 → (n ≡ 2 → (c ≡ word 16) × (d ≡ word 24)) → at + 16 * n ≤ length l → length vs ≤ 16 * n
      → sets (sets l at vs) at (saved_bytes n (word_from (drop at l)) (word 8) c d) ≡ l
  data_back zero c d few more h k = sets_back at 0 l vs k
  data_back (suc zero) c d few more h k =
      rw (one_saved (word_from (drop at l)) (word 8) c d, saved_pair l small at h) (sets_back at 16 l vs k)
  data_back (suc (suc zero)) c d few more h k =
      let e : at + 24 ≡ at + 16 + 8 = omega arith in
      let all : saved_bytes 2 (word_from (drop at l)) (word 8) c d ≡ take 32 (drop at l) =
      two_saved (word_from (drop at l)) (word 8) c d
      ∙ rw ((more refl).0, (more refl).1, e, saved_pair l small at (omega arith), saved_pair l small (at + 16) (omega arith), ← drop-drop 16 at l)
      (sym (take-add 16 16 (drop at l))) in
      rw all (sets_back at 32 l vs k)
  data_back (suc (suc (suc n))) c d few more h k = absurd (omega arith)

-- the tag bytes of n granules, saved before a store and stored after it
pub tags_back : (n at second : ℕ) (l vs : List ℕ) → n ≤ 2 → (n ≡ 2 → second ≡ get_or l (at + 1) 0) → at + n ≤ length l → length vs ≤ n
    → sets (sets l at vs) at (saved_tags n (get_or l at 0) second) ≡ l
tags_back zero at second l vs few more h k = sets_back at 0 l vs k
tags_back (suc zero) at second l vs few more h k = rw (drop_first at l h) at (sets_back at 1 l vs k)
tags_back (suc (suc zero)) at second l vs few more h k = rw (more refl) (rw (drop_two at l h) at (sets_back at 2 l vs k))
tags_back (suc (suc (suc n))) at second l vs few more h k = absurd (omega arith)
