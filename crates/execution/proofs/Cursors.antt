-- The rule of the cursor: what it tells, and that a record put in or taken out keeps it. Assumes nothing.
use Rattle.std.proofs.Common.{◌≡◌, ℕ, ◌+◌, ◌-◌, ◌*◌, ◌<◌, Bool, true, false, cond, ◌&&◌, eqb, ltb, leb, List, length, refl, mod-lt, arith, ltb-true, lt-ltb, eq-eqb, eqb-true, le-leb, leb-true}
use mathlib.Core.Bool.{and-eq-true_iff}
use lib.Seq.{length-sets}
use borrow.Author.Tests.{eqb-false}
use Rattle.machine.specs.declared.Cursor.{Cursor}
use Rattle.machine.specs.Setup.{cursor_ok}
use Rattle.history.specs.Ring.{History, capacity, advanced, previous, retreated, pushed}
use Rattle.history.specs.Inside.Slots.{CursorPlaced}
use Rattle.history.proofs.Slots.{pushed_either}

pub placed : (c : ℕ) (cursor : Cursor) → cursor_ok c cursor ≡ true → CursorPlaced c cursor
unfolding cursor_ok
placed c cursor h = go (eqb c 0) refl h
  where
    go : (t : Bool) → eqb c 0 ≡ t
        → cond t (eqb cursor.next 0 && eqb cursor.held 0) (ltb cursor.next c && leb cursor.held c) ≡ true → CursorPlaced c cursor
    go true z k =
        let (n, m) = (and-eq-true_iff (eqb cursor.next 0) (eqb cursor.held 0)).0 k in
        omega (arith, eqb-true c 0 z, eqb-true cursor.next 0 n, eqb-true cursor.held 0 m)
    go false z k =
        let (n, m) = (and-eq-true_iff (ltb cursor.next c) (leb cursor.held c)).0 k in
        omega (arith, ltb-true cursor.next c n, leb-true cursor.held c m)

pub placed_ok : (c : ℕ) (cursor : Cursor) → CursorPlaced c cursor → cursor_ok c cursor ≡ true
unfolding cursor_ok
placed_ok c cursor p = go (eqb c 0) refl
  where
    go : (t : Bool) → eqb c 0 ≡ t
        → cond t (eqb cursor.next 0 && eqb cursor.held 0) (ltb cursor.next c && leb cursor.held c) ≡ true
    go true z =
        let e = eqb-true c 0 z in
        rw (eq-eqb cursor.next 0 (omega arith), eq-eqb cursor.held 0 (omega arith))
    go false z =
        let n : cursor.next < c = omega (arith, eqb-false c 0 z) in
        rw (lt-ltb cursor.next c n, le-leb cursor.held c p.held)

pub advanced_placed : (c : ℕ) (cursor : Cursor) → 0 < c → CursorPlaced c (advanced c cursor)
unfolding advanced
advanced_placed c cursor some = omega (arith, mod-lt (cursor.next + 1) some)

pub retreated_placed : (c : ℕ) (cursor : Cursor) → 0 < c → CursorPlaced c cursor → CursorPlaced c (retreated c cursor)
unfolding retreated previous
retreated_placed c cursor some p = omega (arith, mod-lt (cursor.next + (c - 1)) some)

pub pushed_words : (r : List ℕ) (h : History) → length (pushed r h).words ≡ length h.words
pushed_words r h =
    pushed_either (λ g. length g.words ≡ length h.words) r h (λ none. refl) (λ some. length-sets h.words (8 * h.cursor.next) r)

pub pushed_placed : (r : List ℕ) (h : History) → CursorPlaced (capacity h) h.cursor → CursorPlaced (capacity h) (pushed r h).cursor
pushed_placed r h p = pushed_either (λ g. CursorPlaced (capacity h) g.cursor) r h (λ none. p) (advanced_placed (capacity h) h.cursor)
