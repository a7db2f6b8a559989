-- The state that words change (document 01, "The machine we model"), without history and cursor.
use Rattle.std.specs.Prelude.{ℕ, ◌^◌, ◌<◌, Bool, true, List, get_or, replicate}
use Rattle.machine.specs.declared.Settings.{Settings}
use Rattle.machine.specs.declared.Status.{Status}
use Rattle.machine.specs.declared.Registers.{Registers}
use Rattle.machine.specs.declared.Machine.{Machine}

-- settings and status with one part replaced

abbrev pub with_exclude : ℕ → Settings → Settings
with_exclude exclude settings = record { base = settings.base; exclude = exclude; access = settings.access }

abbrev pub with_access : Bool → Settings → Settings
with_access access settings = record { base = settings.base; exclude = settings.exclude; access = access }

abbrev pub with_nzcv : ℕ → Status → Status
with_nzcv nzcv status = record { nzcv = nzcv; rgsr = status.rgsr; seed = status.seed }

abbrev pub with_rgsr : ℕ → Status → Status
with_rgsr rgsr status = record { nzcv = status.nzcv; rgsr = rgsr; seed = status.seed }

abbrev pub with_seed : ℕ → Status → Status
with_seed seed status = record { nzcv = status.nzcv; rgsr = status.rgsr; seed = seed }

-- as in a fresh machine: every flag, RGSR field and mask bit 0, tag access on

abbrev pub fresh_settings : ℕ → Settings
fresh_settings base = record { base = base; exclude = 0; access = true }

abbrev pub fresh_status : Status
fresh_status = record { nzcv = 0; rgsr = 0; seed = 0 }

-- `bytes` are the data bytes, `tags` the tag bytes
pub record State : Type 0 where
  pub settings : Settings
  pub registers : Registers
  pub bytes : List ℕ
  pub tags : List ℕ

abbrev pub state_of : Settings → List ℕ → Status → List ℕ → List ℕ → State
state_of settings x status bytes tags =
    record { settings = settings; registers = record { x = x; status = status }; bytes = bytes; tags = tags }

-- a machine's state with the lent bytes
abbrev pub with_memory : Machine → List ℕ → List ℕ → State
with_memory m bytes tags = state_of m.settings m.registers.x m.registers.status bytes tags

-- a state with one part replaced

abbrev pub with_x : List ℕ → State → State
with_x x s = state_of s.settings x s.registers.status s.bytes s.tags

abbrev pub with_status : Status → State → State
with_status status s = state_of s.settings s.registers.x status s.bytes s.tags

abbrev pub with_bytes : List ℕ → State → State
with_bytes bytes s = state_of s.settings s.registers.x s.registers.status bytes s.tags

abbrev pub with_tags : List ℕ → State → State
with_tags tags s = state_of s.settings s.registers.x s.registers.status s.bytes tags

-- a fresh machine on a given base: every register 0 too, and cursor (0, 0)
abbrev pub fresh_on : ℕ → Machine
fresh_on base =
    record {
      settings = fresh_settings base;
      registers = record { x = replicate 32 0; status = fresh_status };
      cursor = record { next = 0; held = 0 };
    }

-- what the types of the fields say of a state: the seed has 16 bits, each data byte and each tag byte 8
pub record Typed (s : State) : Type 0 where
  pub seed : s.registers.status.seed < 2 ^ 16
  pub bytes : (i : ℕ) → get_or s.bytes i 0 < 2 ^ 8
  pub tags : (i : ℕ) → get_or s.tags i 0 < 2 ^ 8
