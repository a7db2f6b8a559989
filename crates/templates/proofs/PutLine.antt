-- A line in the making. Assumes nothing.
use mathlib.Core.Path.{◌≡◌, ap, sym, ◌∙◌}
use mathlib.Core.List.{List, []}
use Prim.Native.Nat.{ℕ, ◌+◌, ◌≤◌}
use native.Mathlib.Omega.{arith}
use lib.ListN.{length, drop, drop_of_length-le}
use lib.Seq.{sets}
use Rattle.templates.specs.Templates.{filled}
use Rattle.templates.specs.declared.Fields.{Fields}
use Rattle.templates.proofs.Writing.{filled_nil}

-- what is put and what is left make the line
abbrev pub Left : List ℕ → List ℕ → Fields → List ℕ → ℕ → ℕ → Type 0
Left out₀ t f out p i =
    (length (filled t f) ≡ p + length (filled (drop i t) f)) × (sets out₀ 0 (filled t f) ≡ sets out p (filled (drop i t) f))

-- behind the template's end nothing is left
pub finished : (out₀ u t : List ℕ) (f : Fields) (out : List ℕ) (p i : ℕ) → length t ≤ i → t ≡ u → Left out₀ t f out p i
    → (p ≡ length (filled u f)) × (out ≡ sets out₀ 0 (filled u f))
finished out₀ u t f out p i h e left =
    let none : filled (drop i t) f ≡ [] = ap (λ (k : List ℕ). filled k f) (drop_of_length-le t h) ∙ filled_nil f in
    let line : filled t f ≡ filled u f = ap (λ (k : List ℕ). filled k f) e in
    (omega (arith, left.0, ap length none, ap length line), sym (left.1 ∙ ap (sets out p) none) ∙ ap (sets out₀ 0) line)
