-- What an accepted word records (document 01, "History", second paragraph), and what a record restores.
use Rattle.std.specs.Prelude.{ℕ, ◌+◌, ◌*◌, Bool, true, false, cond, ◌&&◌, List, [], ◌∷◌, ltb, drop, get_or, Option, Some, None}
use Rattle.std.proofs.lemmas.List.Edits.{sets}
use Rattle.bits.specs.LittleEndian.{word_from}
use Rattle.isa.specs.declared.TwoSourceOp.{TwoSourceOp}
use Rattle.isa.specs.declared.TwoSourceOp.TheVariants.{Subp, Subps, Irg, Gmi}
use Rattle.isa.specs.declared.TagStoreOp.{TagStoreOp}
use Rattle.isa.specs.declared.TagStoreOp.TheVariants.{Stg, Stzg, St2g, Stz2g}
use Rattle.isa.specs.declared.Form.{Form}
use Rattle.isa.specs.declared.Form.TheVariants.{AddSub, TwoSource, Ldg, TagStore, Stgp}
use Rattle.memory.specs.Locations.{index_of}
use Rattle.memory.specs.Stores.{saved_bytes, saved_tags}
use Rattle.machine.specs.State.{State, state_of}
use Rattle.machine.specs.Registers.{x_or_sp, or_none, written}
use Rattle.instructions.specs.Accesses.{Access, no_access, access, access_of, writeback_to}
use Rattle.history.specs.declared.Entry.{Entry}
use Rattle.history.specs.Records.{tag_at, data_at, words_of}

-- the register: the destination or writeback target, 32 if there is neither or it is the zero register

abbrev pub two_source_target : TwoSourceOp → ℕ → ℕ
two_source_target Subp d = or_none d
two_source_target Subps d = or_none d
two_source_target Irg d = d
two_source_target Gmi d = or_none d

abbrev pub target : Form → ℕ
target (AddSub op d n amount offset) = d
target (TwoSource op d n m) = two_source_target op d
target (Ldg t n amount) = or_none t
target (TagStore op mode t n amount) = writeback_to mode n
target (Stgp mode t t2 n amount) = writeback_to mode n

-- LDG records no granules; stores record theirs
abbrev pub granules_recorded : Access → ℕ
granules_recorded no_access = 0
granules_recorded (access n rn address multiple granules stores) = cond stores granules 0

-- the first one's index
abbrev pub first_recorded : ℕ → Access → ℕ
first_recorded base no_access = 0
first_recorded base (access n rn address multiple granules stores) = cond stores (index_of base address) 0

-- with data if they write data

abbrev pub zeroes : TagStoreOp → Bool
zeroes Stg = false
zeroes Stzg = true
zeroes St2g = false
zeroes Stz2g = true

abbrev pub writes_data : Form → Bool
writes_data (AddSub op d n amount offset) = false
writes_data (TwoSource op d n m) = false
writes_data (Ldg t n amount) = false
writes_data (TagStore op mode t n amount) = zeroes op
writes_data (Stgp mode t t2 n amount) = true

-- a word of old data, zero where it is not in use
abbrev pub old_word : Bool → List ℕ → ℕ → ℕ
old_word used bytes at = cond used (word_from (drop at bytes)) 0

-- the register r, n granules from i on, with their data or not, as they stand
unfoldable pub entry_for : ℕ → ℕ → ℕ → Bool → State → Entry
entry_for r n i saves s =
    record {
      register = r;
      granules = n;
      saved = saves;
      tags = cond (ltb 0 n) (get_or s.tags i 0) 0 ∷ cond (ltb 1 n) (get_or s.tags (i + 1) 0) 0 ∷ [];
      status = s.registers.status;
      value = x_or_sp s.registers.x r;
      first = i;
      «data» =
          old_word saves s.bytes (16 * i) ∷ old_word saves s.bytes (16 * i + 8) ∷ old_word (saves && ltb 1 n) s.bytes (16 * i + 16)
          ∷ old_word (saves && ltb 1 n) s.bytes (16 * i + 24) ∷ [];
    }

abbrev pub entry_of : Form → State → Entry
entry_of f s =
    let a = access_of f s in
    entry_for (target f) (granules_recorded a) (first_recorded s.settings.base a) (writes_data f) s

-- the record of a word that is accepted on a state
unfoldable pub record_of : Option Form → State → List ℕ
record_of (Some f) s = words_of (entry_of f s)
record_of None s = []

-- a state with what an entry holds put back: register, NZCV and RGSR, tag bytes whole, data
unfoldable pub restored : Entry → State → State
restored e s =
    state_of s.settings (written s.registers.x e.register e.value) e.status
    (cond e.saved (sets s.bytes (16 * e.first) (saved_bytes e.granules (data_at e 0) (data_at e 1) (data_at e 2) (data_at e 3))) s.bytes)
    (sets s.tags e.first (saved_tags e.granules (tag_at e 0) (tag_at e 1)))
