-- Of checks in the order of their numbers the lowest that applies is given. Assumes nothing.
use Prim.Native.Nat.{ℕ, ◌<◌, ◌≤◌}
use mathlib.Core.Path.{◌≡◌, refl, sym, ap, ◌∙◌}
use mathlib.Core.Bool.{Bool, true, false, cond}
use mathlib.Core.List.{List, [], ◌∷◌}
use mathlib.Core.Logic.{inl, inr}
use native.Mathlib.Omega.{arith}
use Rattle.machine.specs.Codes.{code_number, Check, lowest, Rising, Among, LowestCode}

-- what stands behind the first is above it
above : (n : ℕ) (cs : List Check) → Rising n cs → (c : Check) → Among c cs → n < code_number c.code
above n [] r c m = elim m [ ]
above n (d ∷ cs) r c (inl e) = rw e r.0
above n (d ∷ cs) r c (inr m) = omega (arith, r.0, above (code_number d.code) cs r.1 c m)

abbrev Least : ℕ → ℕ → Check → Type 0
Least n number c = (n < number) × (number ≤ code_number c.code)

least : (n : ℕ) (cs : List Check) → Rising n cs → (c : Check) → Among c cs → c.applies ≡ true → Least n (code_number (lowest cs)) c
unfolding lowest
least n [] r c m p = elim m [ ]
least n (d ∷ cs) r c (inl e) p =
    let q : d.applies ≡ true = sym (ap (λ (k : Check). k.applies) e) ∙ p in
    rw (q, e) (r.0, omega arith)
least n (d ∷ cs) r c (inr m) p =
    go d.applies (above (code_number d.code) cs r.1 c m) (least (code_number d.code) cs r.1 c m p)
  where
    go : (t : Bool) → code_number d.code < code_number c.code → Least (code_number d.code) (code_number (lowest cs)) c
        → Least n (code_number (cond t d.code (lowest cs))) c
    go true below rest = (r.0, omega arith)
    go false below rest = (omega (arith, r.0, rest.0), rest.1)

one : (cs : List Check) → 0 < code_number (lowest cs) → (c : Check) × Among c cs × (c.applies ≡ true) × (lowest cs ≡ c.code)
unfolding lowest
one [] h = absurd (omega arith)
one (d ∷ cs) h = go d.applies refl h (one cs)
  where
    go : (t : Bool) → d.applies ≡ t → 0 < code_number (cond t d.code (lowest cs))
        → (0 < code_number (lowest cs) → (c : Check) × Among c cs × (c.applies ≡ true) × (lowest cs ≡ c.code))
        → (c : Check) × Among c (d ∷ cs) × (c.applies ≡ true) × (cond t d.code (lowest cs) ≡ c.code)
    go true e k rest = (d, inl refl, e, refl)
    go false e k rest = let o = rest k in (o.0, inr o.1, o.2, o.3)

pub lowest_code : LowestCode
unfolding LowestCode
lowest_code cs r = record { least = least 0 cs r; one = one cs }
