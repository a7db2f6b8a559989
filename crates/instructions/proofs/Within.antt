-- The numbers of an accepted form's effect are in range, and its granules inside. Assumes nothing.
use Rattle.std.proofs.Common.{◌≡◌, ℕ, ◌*◌, ◌≤◌, true, eqb, length, refl, arith}
use lib.ListN.{length-replicate}
use Rattle.bits.proofs.Bounds.{cond_lt}
use Rattle.isa.specs.declared.Mode.{Mode}
use Rattle.isa.specs.declared.Mode.TheVariants.{Post, Pre, Offset}
use Rattle.isa.specs.declared.TwoSourceOp.TheVariants.{Subp, Subps, Irg, Gmi}
use Rattle.isa.specs.declared.TagStoreOp.{TagStoreOp}
use Rattle.isa.specs.declared.TagStoreOp.TheVariants.{Stg, Stzg, St2g, Stz2g}
use Rattle.isa.specs.declared.Form.{Form}
use Rattle.isa.specs.declared.Form.TheVariants.{AddSub, TwoSource, Ldg, TagStore, Stgp}
use Rattle.isa.specs.Encoding.{register, amount_in, fields_fit}
use Rattle.isa.proofs.Fits.{two_registers, three_fields}
use Rattle.memory.proofs.Stores.{pair_length}
use Rattle.memory.proofs.Locations.{within}
use Rattle.machine.specs.declared.Status.{Status}
use Rattle.machine.specs.State.{State}
use Rattle.machine.specs.Setup.{sound}
use Rattle.machine.specs.Codes.{is_done}
use Rattle.machine.specs.Registers.{x_or_sp, or_none}
use Rattle.machine.proofs.Rules.{state_sized}
use Rattle.instructions.specs.Accesses.{access, address_of, granules_named, writeback_to}
use Rattle.instructions.specs.Inside.Effects.{Change, new_bytes, Within, register_effect, store_effect, zeroing, form_effect}
use Rattle.instructions.specs.Inside.Places.{access_code}
use Rattle.instructions.proofs.Outcomes.{Accepted}
use Rattle.instructions.proofs.Places.{accepted}

-- a word that changes no memory
pub register_within : (g n v : ℕ) (status : Status) → n ≤ 32 → Within (register_effect n v status) g
register_within g n v status h =
    record { register = h; few = omega arith; inside = omega arith; wide = omega arith; some = λ h. absurd (cc); none = λ z. refl }

-- and drops its result where the number is 31
pub or_none_le : (n : ℕ) → n ≤ 31 → or_none n ≤ 32
or_none_le n h = omega (arith, cond_lt (eqb n 31) {x = 32} {y = n} {m = 33} (omega arith) (omega arith))

dropping_within : (g n v : ℕ) (status : Status) → n ≤ 31 → Within (register_effect (or_none n) v status) g
dropping_within g n v status h = register_within g (or_none n) v status (or_none_le n h)

pub writeback_le : (mode : Mode) (n : ℕ) → n ≤ 31 → writeback_to mode n ≤ 32
writeback_le Post n h = omega arith
writeback_le Pre n h = omega arith
writeback_le Offset n h = omega arith

pub few_named : (op : TagStoreOp) → (1 ≤ granules_named op) × (granules_named op ≤ 2)
few_named Stg = (omega arith, omega arith)
few_named Stzg = (omega arith, omega arith)
few_named St2g = (omega arith, omega arith)
few_named Stz2g = (omega arith, omega arith)

zeroing_wide : (op : TagStoreOp) (n : ℕ) → length (new_bytes (zeroing op) n) ≤ 16 * n
zeroing_wide Stg n = omega arith
zeroing_wide Stzg n = rw (length-replicate {A = ℕ} (16 * n) 0) (omega arith)
zeroing_wide St2g n = omega arith
zeroing_wide Stz2g n = rw (length-replicate {A = ℕ} (16 * n) 0) (omega arith)

module _ (s : State) (ok : sound s ≡ true) where
  store_within : (mode : Mode) (n amount granules tag : ℕ) (change : Change) → n ≤ 31 → 1 ≤ granules → granules ≤ 2
      → length (new_bytes change granules) ≤ 16 * granules
      → is_done (access_code s.settings.base (length s.tags) (access n (x_or_sp s.registers.x n) (address_of mode (x_or_sp s.registers.x n) amount) 16 granules true)) ≡ true
      → Within (store_effect mode n amount granules tag change s) (length s.tags)
  store_within mode n amount granules tag change hn some few wide h =
      let rn = x_or_sp s.registers.x n in
      let rules = state_sized s.settings s.registers.status (length s.bytes) (length s.tags) ok in
      let (z, v) = accepted s.settings.base (length s.tags) n rn (address_of mode rn amount) 16 granules true h in
      let inside = within s.settings.base (length s.bytes) (length s.tags) granules (address_of mode rn amount) rules (λ two. z) v some in
      record { register = writeback_le mode n hn; few = few; inside = inside.1; wide = wide; some = λ w. some; none = λ z. absurd (omega arith) }

  pub form_within : (f : Form) → fields_fit f ≡ true → Accepted s f → Within (form_effect f s) (length s.tags)
  form_within (AddSub op d n amount offset) h k =
      let fit = three_fields d n offset 15 (amount_in 0 1008 amount) h in register_within _ d _ _ (omega arith)
  form_within (TwoSource Subp d n m) h k = dropping_within _ d _ _ (two_registers d n (register m) h).0
  form_within (TwoSource Subps d n m) h k = dropping_within _ d _ _ (two_registers d n (register m) h).0
  form_within (TwoSource Irg d n m) h k = let fit = two_registers d n (register m) h in register_within _ d _ _ (omega arith)
  form_within (TwoSource Gmi d n m) h k = dropping_within _ d _ _ (two_registers d n (register m) h).0
  form_within (Ldg t n amount) h k = dropping_within _ t _ _ (two_registers t n (amount_in 4096 4080 amount) h).0
  form_within (TagStore op mode t n amount) h k =
      let (some, few) = few_named op in
      store_within mode n amount (granules_named op) _ (zeroing op) (two_registers t n (amount_in 4096 4080 amount) h).1 some few
      (zeroing_wide op (granules_named op)) k
  form_within (Stgp mode t t2 n amount) h k =
      store_within mode n amount 1 _ _ (three_fields t t2 n 31 (amount_in 1024 1008 amount) h).2 (omega arith) (omega arith)
      (rw pair_length (omega arith)) k
