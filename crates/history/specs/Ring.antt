-- The lent history, its ring of slots and its cursor (document 01, "The machine we model" and "History", first paragraph).
use Rattle.std.specs.Prelude.{ℕ, ◌+◌, ◌*◌, ◌-◌, ◌%◌, min, cond, List, length, take, drop, eqb}
use Rattle.std.proofs.lemmas.List.Edits.{sets}
use Rattle.machine.specs.declared.Cursor.{Cursor}
use Rattle.machine.specs.Setup.{slots_of}

-- the lent history words, with the cursor
pub record History : Type 0 where
  pub words : List ℕ
  pub cursor : Cursor

-- C, the number of slots
abbrev pub capacity : History → ℕ
capacity h = slots_of (length h.words)

-- next goes up by one mod c and held rises to at most c
unfoldable pub advanced : ℕ → Cursor → Cursor
advanced c cursor = record { next = (cursor.next + 1) % c; held = min (cursor.held + 1) c }

-- next goes down by one mod c
unfoldable pub previous : ℕ → ℕ → ℕ
previous c next = (next + (c - 1)) % c

-- and held down by one
unfoldable pub retreated : ℕ → Cursor → Cursor
retreated c cursor = record { next = previous c cursor.next; held = cursor.held - 1 }

-- a record written at next; with no slots nothing is written
unfoldable pub pushed : List ℕ → History → History
pushed r h =
    cond (eqb (capacity h) 0) h
    (record { words = sets h.words (8 * h.cursor.next) r; cursor = advanced (capacity h) h.cursor })

-- the record that a step back reads
unfoldable pub newest : History → List ℕ
newest h = take 8 (drop (8 * previous (capacity h) h.cursor.next) h.words)

-- history words stay
unfoldable pub popped : History → History
popped h = record { words = h.words; cursor = retreated (capacity h) h.cursor }
