-- What each test of a line decides, and what a line that was read says of itself. Assumes nothing.
use mathlib.Core.Path.{◌≡◌, refl, sym, ap}
use Rattle.std.proofs.lemmas.Option.{same_Some}
use mathlib.Core.Bool.{Bool, true, false, cond, and-eq-true_iff}
use mathlib.Core.List.{List}
use Prim.Native.Nat.{ℕ, ◌+◌, ◌≤◌, ◌<◌}
use native.Mathlib.Omega.{arith}
use lib.ListN.{length, get_or, drop}
use lib.Dec.{leb, eqb}
use borrow.Author.Tests.{le-leb, lt-leb, leb-true}
use Rattle.text.specs.Hex.{read_hex}
use Rattle.std.proofs.Common.{Option, None, Some}
use Rattle.text.specs.Lines.{starts, framed, capped, is_line, line_at}
use Rattle.text.specs.declared.Line.{Line}

module _ (key : List ℕ) (n : ℕ) (s : List ℕ) (at : ℕ) where
  pub frame_end : at + (length key + n + 1) ≤ length s → starts key (drop at s) ≡ true → framed key n s at ≡ eqb (get_or s (at + length key + n) 0) 10
  unfolding framed
  frame_end h k = rw (le-leb _ _ h, k)

  -- what stands in a frame lies within the text
  pub frame_fits : framed key n s at ≡ true → at + (length key + n + 1) ≤ length s
  unfolding framed
  frame_fits e = leb-true _ _ ((and-eq-true_iff _ _).0 ((and-eq-true_iff _ _).0 e).0).0

module _ (most next v : ℕ) where
  pub capped_is : v ≤ most → capped most next (Some v) ≡ is_line v next
  unfolding capped
  capped_is h = rw (le-leb _ _ h)

  pub capped_over : most < v → capped most next (Some v) ≡ None
  unfolding capped
  capped_over h = rw (lt-leb _ _ h)

pub capped_not : (most next : ℕ) → capped most next None ≡ None
unfolding capped
capped_not most next = refl

module _ (key : List ℕ) (n most : ℕ) (s : List ℕ) (at : ℕ) where
  pub line_unframed : framed key n s at ≡ false → line_at key n most s at ≡ None
  unfolding line_at
  line_unframed e = rw e

  pub line_framed : framed key n s at ≡ true
      → line_at key n most s at ≡ capped most (at + (length key + n + 1)) (read_hex n 0 (drop (at + length key) s))
  unfolding line_at
  line_framed e = rw e

-- a line has one number and one place after it
pub line_same : (v next w after : ℕ) → is_line w after ≡ is_line v next → (w ≡ v) × (after ≡ next)
line_same v next w after e =
    let same : ◌≡◌ {A = Line} (record { value = w; next = after }) (record { value = v; next = next }) = same_Some _ _ e in
    (ap (λ (x : Line). x.value) same, ap (λ (x : Line). x.next) same)

passed : (b : Bool) (x : Option Line) (v next : ℕ) → cond b x None ≡ is_line v next → (b ≡ true) × (x ≡ is_line v next)
passed true x v next e = (refl, e)
passed false x v next e = cc

capped_says : (most after : ℕ) (h : Option ℕ) (v next : ℕ) → capped most after h ≡ is_line v next → (v ≤ most) × (next ≡ after)
unfolding capped
capped_says most after (Some w) v next e =
    let p : (leb w most ≡ true) × (is_line w after ≡ is_line v next) = passed (leb w most) (is_line w after) v next e in
    let same = line_same v next w after p.1 in
    (omega (arith, leb-true w most p.0), sym same.1)
capped_says most after None v next e = cc

-- the number of a line is at most the largest, and the next line begins behind this one, within the text
pub line_says : (key : List ℕ) (n most : ℕ) (s : List ℕ) (at v next : ℕ) → line_at key n most s at ≡ is_line v next
    → (v ≤ most) × (next ≡ at + (length key + n + 1)) × (next ≤ length s)
unfolding line_at
line_says key n most s at v next e =
    let p = passed (framed key n s at) _ v next e in
    let t = capped_says most (at + (length key + n + 1)) (read_hex n 0 (drop (at + length key) s)) v next p.1 in
    let room : at + (length key + n + 1) ≤ length s = frame_fits key n s at p.0 in
    (t.0, t.1, omega arith)
