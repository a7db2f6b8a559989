-- An entry comes back from its eight words, whose gaps are zero. Assumes nothing.
use Prim.Native.Nat.{ℕ, ◌^◌, ◌<◌, ◌≤◌}
use mathlib.Core.Bool.{Bool, true, false, cond}
use mathlib.Core.List.{[], ◌∷◌}
use mathlib.Core.Path.{◌≡◌, refl}
use native.Mathlib.Omega.{arith}
use lib.Dec.{eqb}
use Rattle.bits.specs.Fields.{bits_at}
use Rattle.history.specs.declared.Entry.{Entry}
use Rattle.history.specs.Records.{tag_at, data_at, word0, words_of, entry_in}
use Rattle.history.specs.BadRecords.{gap_not_zero}

-- an entry whose numbers fit their places
pub record Fits (e : Entry) : Type 0 where
  pub register : e.register ≤ 32
  pub granules : e.granules ≤ 2
  pub tag : tag_at e 0 < 2 ^ 8
  pub second : tag_at e 1 < 2 ^ 8
  pub nzcv : e.status.nzcv ≤ 15
  pub rgsr : e.status.rgsr ≤ 15
  pub seed : e.status.seed < 2 ^ 16

-- with its two tag bytes and its four words
abbrev pub Filled : Entry → Type 0
Filled e = (e.tags ≡ tag_at e 0 ∷ tag_at e 1 ∷ []) × (e.«data» ≡ data_at e 0 ∷ data_at e 1 ∷ data_at e 2 ∷ data_at e 3 ∷ [])

-- a bit that says whether
one_if : (b : Bool) → (cond b 1 0 < 2) × (eqb (cond b 1 0) 1 ≡ b)
one_if true = (omega arith, refl)
one_if false = (omega arith, refl)

-- the fields of word 0
fields : (e : Entry) (w saved : ℕ) → cond e.saved 1 0 ≡ saved → saved < 2 → w ≡ word0 e → Fits e
    → (bits_at w 0 6 ≡ e.register) × (bits_at w 8 2 ≡ e.granules) × (bits_at w 10 1 ≡ saved) × (bits_at w 16 8 ≡ tag_at e 0)
    × (bits_at w 24 8 ≡ tag_at e 1) × (bits_at w 32 4 ≡ e.status.nzcv) × (bits_at w 36 4 ≡ e.status.rgsr)
    × (bits_at w 40 16 ≡ e.status.seed) × (bits_at w 6 2 ≡ 0) × (bits_at w 11 5 ≡ 0) × (bits_at w 56 8 ≡ 0)
fields e w saved s few p f = omega arith

pub entry_back : (e : Entry) → Filled e → Fits e → entry_in (words_of e) ≡ e
unfolding words_of entry_in
entry_back e filled f =
    let s = one_if e.saved in
    let q = fields e (word0 e) (cond e.saved 1 0) refl s.0 refl f in
    rw (q.0, q.1, q.2, q.3, q.4, q.5, q.6, q.7, s.1, ← filled.0, ← filled.1)

pub gaps_zero : (e : Entry) → Fits e → gap_not_zero (words_of e) ≡ false
unfolding words_of
gaps_zero e f =
    let q = fields e (word0 e) (cond e.saved 1 0) refl (one_if e.saved).0 refl f in
    rw (q.8, q.9, q.10)
