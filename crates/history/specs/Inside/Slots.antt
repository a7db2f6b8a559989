-- The history's parts as the functions inside hold them, and the record of an effect.
use Rattle.std.specs.Prelude.{ℕ, ◌*◌, ◌≤◌, ◌<◌, max, cond, List}
use Rattle.std.proofs.lemmas.List.Edits.{sets}
use Rattle.memory.specs.Stores.{saved_bytes}
use Rattle.machine.specs.declared.Cursor.{Cursor}
use Rattle.machine.specs.State.{State}
use Rattle.instructions.specs.Inside.Effects.{Effect, writes}
use Rattle.history.specs.Ring.{History}
use Rattle.history.specs.declared.Entry.{Entry}
use Rattle.history.specs.Records.{data_at}
use Rattle.history.specs.Recording.{entry_for}

abbrev pub history_of : List ℕ → Cursor → History
history_of words cursor = record { words = words; cursor = cursor }

-- the rule of the cursor in one: next and held in their ranges, and both 0 if there are no slots
pub record CursorPlaced (c : ℕ) (cursor : Cursor) : Type 0 where
  pub next : cursor.next < max c 1
  pub held : cursor.held ≤ c

-- what an effect is about to change
abbrev pub entry_on : Effect → State → Entry
entry_on e s = entry_for e.register e.granules e.first (writes e.change) s

-- what an entry's data leaves of the bytes
abbrev pub data_restored : Entry → List ℕ → List ℕ
data_restored e bytes =
    cond e.saved (sets bytes (16 * e.first) (saved_bytes e.granules (data_at e 0) (data_at e 1) (data_at e 2) (data_at e 3))) bytes
