-- Laws of the bytes of a number: how many, and both ways back. Assumes nothing.
use mathlib.Core.Path.{◌≡◌, refl, ap, ap₂, ◌∙◌}
use Prim.Native.Nat.{ℕ, zero, suc, ◌+◌, ◌*◌, ◌/◌, ◌%◌, ◌^◌, ◌≤◌, ◌<◌}
use mathlib.Core.List.{List, [], ◌∷◌}
use native.Mathlib.Nat.{pow-suc}
use native.Mathlib.Omega.{arith}
use lib.ListN.{length, get_or}
use Rattle.bits.specs.LittleEndian.{low_bytes, from_bytes, bytes_of, word_from}

pub low_bytes_length : (n v : ℕ) → length (low_bytes n v) ≡ n
unfolding low_bytes
low_bytes_length zero v = refl
low_bytes_length (suc n) v = ap suc (low_bytes_length n (v / 256))

-- a number of n bytes comes back from them
pub from_low_bytes : (n v : ℕ) → v < 256 ^ n → from_bytes (low_bytes n v) ≡ v
unfolding low_bytes from_bytes
from_low_bytes zero v h = omega arith
from_low_bytes (suc n) v h =
    omega (arith, from_low_bytes n (v / 256) (omega (arith, pow-suc 256 n)))

-- bytes come back from the number that they make
pub low_bytes_from : (bs : List ℕ) → ((i : ℕ) → get_or bs i 0 < 256) → low_bytes (length bs) (from_bytes bs) ≡ bs
unfolding low_bytes from_bytes
low_bytes_from [] small = refl
low_bytes_from (b ∷ bs) small =
    let h : b < 256 = small 0 in
    let rest : low_bytes (length bs) (from_bytes bs) ≡ bs = low_bytes_from bs (λ i. small (suc i)) in
    let lowest : (b + 256 * from_bytes bs) % 256 ≡ b = omega arith in
    let above : (b + 256 * from_bytes bs) / 256 ≡ from_bytes bs = omega arith in
    ap₂ (λ (x : ℕ) (xs : List ℕ). x ∷ xs) lowest (ap (low_bytes (length bs)) above ∙ rest)

-- the bytes of a word, each by one division
pub bytes_apart : (v : ℕ)
    → (v % 256 ∷ v / 256 % 256 ∷ v / 65536 % 256 ∷ v / 16777216 % 256
    ∷ v / 4294967296 % 256 ∷ v / 1099511627776 % 256 ∷ v / 281474976710656 % 256 ∷ v / 72057594037927936 % 256 ∷ [])
    ≡ bytes_of v
unfolding low_bytes
bytes_apart v =
    let e2 : v / 65536 ≡ v / 256 / 256 = omega arith in
    let e3 : v / 16777216 ≡ v / 256 / 256 / 256 = omega arith in
    let e4 : v / 4294967296 ≡ v / 256 / 256 / 256 / 256 = omega arith in
    let e5 : v / 1099511627776 ≡ v / 256 / 256 / 256 / 256 / 256 = omega arith in
    let e6 : v / 281474976710656 ≡ v / 256 / 256 / 256 / 256 / 256 / 256 = omega arith in
    let e7 : v / 72057594037927936 ≡ v / 256 / 256 / 256 / 256 / 256 / 256 / 256 = omega arith in
    λ i. v % 256 ∷ v / 256 % 256 ∷ e2 i % 256 ∷ e3 i % 256 ∷ e4 i % 256 ∷ e5 i % 256 ∷ e6 i % 256 ∷ e7 i % 256 ∷ []

-- the word of a list by its first eight bytes
pub word_apart : (l : List ℕ) → 8 ≤ length l
    → get_or l 0 0 + 256 * (get_or l 1 0 + 256 * (get_or l 2 0 + 256 * (get_or l 3 0
    + 256 * (get_or l 4 0 + 256 * (get_or l 5 0 + 256 * (get_or l 6 0 + 256 * get_or l 7 0))))))
    ≡ word_from l
unfolding from_bytes
word_apart (a ∷ b ∷ c ∷ d ∷ e ∷ f ∷ g ∷ h ∷ l) k = omega arith
word_apart [] k = absurd (omega arith)
word_apart (a ∷ []) k = absurd (omega arith)
word_apart (a ∷ b ∷ []) k = absurd (omega arith)
word_apart (a ∷ b ∷ c ∷ []) k = absurd (omega arith)
word_apart (a ∷ b ∷ c ∷ d ∷ []) k = absurd (omega arith)
word_apart (a ∷ b ∷ c ∷ d ∷ e ∷ []) k = absurd (omega arith)
word_apart (a ∷ b ∷ c ∷ d ∷ e ∷ f ∷ []) k = absurd (omega arith)
word_apart (a ∷ b ∷ c ∷ d ∷ e ∷ f ∷ g ∷ []) k = absurd (omega arith)
