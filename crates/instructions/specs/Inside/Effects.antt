-- Effects: what an accepted form changes, as plain data. By the law of proofs/Outcomes the effect of a form leaves the state that its
-- operation gives.
use Rattle.std.specs.Prelude.{◌≡◌, ℕ, ◌+◌, ◌*◌, ◌≤◌, Bool, true, false, cond, List, [], length, replicate}
use Rattle.std.proofs.lemmas.List.Edits.{sets}
use Rattle.isa.specs.declared.Mode.{Mode}
use Rattle.isa.specs.declared.TwoSourceOp.{TwoSourceOp}
use Rattle.isa.specs.declared.TwoSourceOp.TheVariants.{Subp, Subps, Irg, Gmi}
use Rattle.isa.specs.declared.TagStoreOp.{TagStoreOp}
use Rattle.isa.specs.declared.TagStoreOp.TheVariants.{Stg, Stzg, St2g, Stz2g}
use Rattle.isa.specs.declared.Form.{Form}
use Rattle.isa.specs.declared.Form.TheVariants.{AddSub, TwoSource, Ldg, TagStore, Stgp}
use Rattle.tag.specs.PointerTags.{tag_of, with_tag}
use Rattle.memory.specs.Locations.{index_of, onward}
use Rattle.memory.specs.Stores.{zero_bytes, pair_bytes}
use Rattle.machine.specs.declared.Status.{Status}
use Rattle.machine.specs.State.{State, state_of, with_nzcv}
use Rattle.machine.specs.Registers.{x_or_sp, x_or_zero, or_none, written}
use Rattle.instructions.specs.Accesses.{address_of, rounded_down, granules_named, writeback_to}
use Rattle.instructions.specs.RegisterWords.{add_sub_result, difference, difference_flags, with_tag_bit, irg_tag, irg_status, mask_of}
use Rattle.instructions.specs.MemoryWords.{loaded_tag}

-- what becomes of the data of an effect's granules
pub data Change : Type 0 where
  kept : Change
  zeroed : Change
  pair : (low high : ℕ) → Change

-- a register (0 to 30, 31 SP, 32 none) and its value, the status, and the granules from the first on: their tag, if tags are stored,
-- and their data
pub record Effect : Type 0 where
  pub register : ℕ
  pub value : ℕ
  pub status : Status
  pub first : ℕ
  pub granules : ℕ
  pub tagged : Bool
  pub tag : ℕ
  pub change : Change

-- the data bytes that a change of n granules writes
abbrev pub new_bytes : Change → ℕ → List ℕ
new_bytes kept n = []
new_bytes zeroed n = zero_bytes n
new_bytes (pair low high) n = pair_bytes low high

-- whether it writes data
abbrev pub writes : Change → Bool
writes kept = false
writes zeroed = true
writes (pair low high) = true

-- the tag bytes that n granules are given
abbrev pub new_tags : ℕ → Bool → ℕ → List ℕ
new_tags n tagged tag = cond tagged (replicate n tag) []

-- the state that an effect leaves
abbrev pub applied : Effect → State → State
applied e s =
    state_of s.settings (written s.registers.x e.register e.value) e.status
    (sets s.bytes (16 * e.first) (new_bytes e.change e.granules))
    (sets s.tags e.first (new_tags e.granules e.tagged e.tag))

-- an effect whose numbers are in range and whose granules are inside, where there are g
pub record Within (e : Effect) (g : ℕ) : Type 0 where
  pub register : e.register ≤ 32
  pub few : e.granules ≤ 2
  pub inside : e.first + e.granules ≤ g
  pub wide : length (new_bytes e.change e.granules) ≤ 16 * e.granules
  pub some : writes e.change ≡ true → 1 ≤ e.granules
  pub none : e.granules ≡ 0 → e.first ≡ 0

-- the effect of each form

abbrev pub register_effect : ℕ → ℕ → Status → Effect
register_effect n v status =
    record { register = n; value = v; status = status; first = 0; granules = 0; tagged = false; tag = 0; change = kept }

abbrev pub two_source_effect : TwoSourceOp → ℕ → ℕ → ℕ → State → Effect
two_source_effect Subp d n m s =
    let x = s.registers.x in
    register_effect (or_none d) (difference (x_or_sp x n) (x_or_sp x m)) s.registers.status
two_source_effect Subps d n m s =
    let x = s.registers.x in
    register_effect (or_none d) (difference (x_or_sp x n) (x_or_sp x m))
    (with_nzcv (difference_flags (x_or_sp x n) (x_or_sp x m)) s.registers.status)
two_source_effect Irg d n m s =
    let x = s.registers.x in
    let mask = mask_of s.settings (x_or_zero x m) in
    register_effect d (with_tag (x_or_sp x n) (irg_tag s.settings s.registers.status mask))
    (irg_status s.settings s.registers.status mask)
two_source_effect Gmi d n m s =
    let x = s.registers.x in
    register_effect (or_none d) (with_tag_bit (x_or_zero x m) (x_or_sp x n)) s.registers.status

abbrev pub ldg_effect : ℕ → ℕ → ℕ → State → Effect
ldg_effect t n amount s =
    let x = s.registers.x in
    let i = index_of s.settings.base (rounded_down (onward (x_or_sp x n) amount)) in
    register_effect (or_none t) (with_tag (x_or_zero x t) (loaded_tag s.settings s.tags i)) s.registers.status

abbrev pub zeroing : TagStoreOp → Change
zeroing Stg = kept
zeroing Stzg = zeroed
zeroing St2g = kept
zeroing Stz2g = zeroed

abbrev pub store_effect : Mode → ℕ → ℕ → ℕ → ℕ → Change → State → Effect
store_effect mode n amount granules tag change s =
    let rn = x_or_sp s.registers.x n in
    record {
      register = writeback_to mode n;
      value = onward rn amount;
      status = s.registers.status;
      first = index_of s.settings.base (address_of mode rn amount);
      granules = granules;
      tagged = s.settings.access;
      tag = tag;
      change = change;
    }

abbrev pub form_effect : Form → State → Effect
form_effect (AddSub op d n amount offset) s =
    register_effect d (add_sub_result s.settings op (x_or_sp s.registers.x n) amount offset) s.registers.status
form_effect (TwoSource op d n m) s = two_source_effect op d n m s
form_effect (Ldg t n amount) s = ldg_effect t n amount s
form_effect (TagStore op mode t n amount) s =
    store_effect mode n amount (granules_named op) (tag_of (x_or_sp s.registers.x t)) (zeroing op) s
form_effect (Stgp mode t t2 n amount) s =
    let x = s.registers.x in
    store_effect mode n amount 1 (tag_of (address_of mode (x_or_sp x n) amount)) (pair (x_or_zero x t) (x_or_zero x t2)) s
