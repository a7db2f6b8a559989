-- That a setup is lent the same memory after a call as before it; no rule of document 01.
use Rattle.std.specs.Prelude.{◌≡◌, length}
use Rattle.machine.specs.declared.Setup.{Setup}

-- the data and the tags are the same loans, of the same lengths: what is written through the new setup is written where the old one was
-- lent
abbrev pub SameLoans : Setup → Setup → Type 0
SameLoans old new =
    (new.bytes.ghost_name ≡ old.bytes.ghost_name)
    × (new.tags.ghost_name ≡ old.tags.ghost_name)
    × (length new.bytes.now ≡ length old.bytes.now)
    × (length new.tags.now ≡ length old.tags.now)
