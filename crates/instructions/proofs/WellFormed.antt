-- A word leaves a sound state sound, with its settings and sizes. Assumes nothing.
use Rattle.std.proofs.Common.{◌≡◌, ℕ, ◌≤◌, Bool, true, false, cond, ltb, List, length, set, refl, length-set, le-leb}
use lib.Seq.{length-sets}
use Rattle.machine.specs.declared.Status.{Status}
use Rattle.machine.specs.State.{State}
use Rattle.machine.specs.Setup.{status_ok, state_ok, sound}
use Rattle.machine.specs.Registers.{written}
use Rattle.machine.proofs.Rules.{state_sizes, state_status}
use Rattle.instructions.specs.WordOutcomes.{word_outcome}
use Rattle.instructions.specs.Inside.Effects.{Effect, applied, form_effect}
use Rattle.instructions.proofs.Outcomes.{word_either}
use Rattle.instructions.proofs.Statuses.{StatusInRange, form_statuses}

-- a state with the settings and the sizes of another
pub record SameShape (after s : State) : Type 0 where
  pub settings : after.settings ≡ s.settings
  pub registers : length after.registers.x ≡ length s.registers.x
  pub bytes : length after.bytes ≡ length s.bytes
  pub tags : length after.tags ≡ length s.tags

written_length : (x : List ℕ) (n v : ℕ) → length (written x n v) ≡ length x
written_length x n v = go (ltb n 32)
  where
    go : (t : Bool) → length (cond t (set x n v) x) ≡ length x
    go true = length-set x n v
    go false = refl

status_ok_lem : (status : Status) → status.nzcv ≤ 15 → status.rgsr ≤ 15 → status_ok status ≡ true
status_ok_lem status h k = simp (le-leb status.nzcv 15, le-leb status.rgsr 15)

applied_sound : (e : Effect) (s : State) → sound s ≡ true → StatusInRange e.status → sound (applied e s) ≡ true
unfolding state_ok
applied_sound e s h (nzcv, rgsr) =
    simp (length-sets, state_sizes s.settings s.registers.status (length s.bytes) (length s.tags) h, status_ok_lem e.status nzcv rgsr)

module _ (w : ℕ) (s : State) (h : sound s ≡ true) where
  pub word_keeps : SameShape (word_outcome true w s).state s
  word_keeps =
      word_either (λ after. SameShape after s) w s h
      (record { settings = refl; registers = refl; bytes = refl; tags = refl })
      (λ f e k.
      record { settings = refl; registers = written_length s.registers.x (form_effect f s).register (form_effect f s).value; bytes = simp length-sets; tags = simp length-sets })

  pub word_sound : sound (word_outcome true w s).state ≡ true
  word_sound =
      word_either (λ after. sound after ≡ true) w s h h
      (λ f e k.
      applied_sound (form_effect f s) s h
      (form_statuses s (state_status s.settings s.registers.status (length s.bytes) (length s.tags) h) f))
