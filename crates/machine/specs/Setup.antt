-- The rules of the setup (document 01, "Sizes and shape of the setup").
use Rattle.std.specs.Prelude.{ℕ, ◌/◌, Bool, cond, ◌&&◌, leb, ltb, eqb, length, Result, Ok, Err}
use Rattle.memory.specs.Sizes.{sizes_ok}
use Rattle.machine.specs.declared.Settings.{Settings}
use Rattle.machine.specs.declared.Status.{Status}
use Rattle.machine.specs.declared.Cursor.{Cursor}
use Rattle.machine.specs.declared.Machine.{Machine}
use Rattle.machine.specs.declared.Code.{Code}
use Rattle.machine.specs.declared.Code.TheVariants.{Setup}
use Rattle.machine.specs.State.{State}

-- NZCV and RGSR's tag are each at most 15
abbrev pub status_ok : Status → Bool
status_ok status = leb status.nzcv 15 && leb status.rgsr 15

-- the rules on the state, with so many data bytes and tag bytes
unfoldable pub state_ok : Settings → Status → ℕ → ℕ → Bool
state_ok settings status bytes g = sizes_ok settings.base bytes g && status_ok status

-- a state that keeps them
abbrev pub sound : State → Bool
sound s = state_ok s.settings s.registers.status (length s.bytes) (length s.tags)

-- with c slots: next < c and held ≤ c, or both 0 if c = 0
unfoldable pub cursor_ok : ℕ → Cursor → Bool
cursor_ok c cursor = cond (eqb c 0) (eqb cursor.next 0 && eqb cursor.held 0) (ltb cursor.next c && leb cursor.held c)

-- a history of so many words has floor(words / 8) slots
abbrev pub slots_of : ℕ → ℕ
slots_of words = words / 8

-- the whole rule
unfoldable pub setup_ok : Machine → ℕ → ℕ → ℕ → Bool
setup_ok m bytes g words = state_ok m.settings m.registers.status bytes g && cursor_ok (slots_of words) m.cursor

-- what a setup that breaks it gets
abbrev pub checked : Machine → ℕ → ℕ → ℕ → Result Unit Code
checked m bytes g words = cond (setup_ok m bytes g words) (Ok tt) (Err Setup)
