-- The effect of a form leaves the state that its operation gives, so a word leaves the state as it is or with its effect. Assumes
-- nothing.
use Rattle.std.proofs.Common.{◌≡◌, ℕ, ◌%◌, Bool, true, false, cond, length, sym, refl, ap, ◌∙◌, subst, Option, Some, None}
use Rattle.isa.specs.declared.Mode.{Mode}
use Rattle.isa.specs.declared.TwoSourceOp.TheVariants.{Subp, Subps, Irg, Gmi}
use Rattle.isa.specs.declared.Form.{Form}
use Rattle.isa.specs.declared.Form.TheVariants.{AddSub, TwoSource, Ldg, TagStore, Stgp}
use Rattle.isa.specs.Decoding.{decode_of}
use Rattle.memory.specs.Locations.{all_inside, index_of, onward}
use Rattle.memory.proofs.Sizes.{Sized}
use Rattle.machine.specs.State.{State}
use Rattle.machine.specs.Setup.{sound}
use Rattle.machine.specs.Codes.{lowest, is_done}
use Rattle.machine.specs.Registers.{x_or_sp, x_or_zero}
use Rattle.machine.proofs.Rules.{state_sized}
use Rattle.instructions.specs.Accesses.{access, access_of, address_of, granules_named, writeback}
use Rattle.instructions.specs.WordOutcomes.{code_of, carried_out, operation, word_outcome}
use Rattle.instructions.specs.Inside.Effects.{Change, pair, zeroing, applied, store_effect, form_effect}
use Rattle.instructions.specs.Inside.Places.{access_code}
use Rattle.instructions.proofs.Places.{accepted}
use Rattle.instructions.proofs.StoreEffects.{stored, written_back, tags_stored, pair_stored}

module _ (s : State) where
  -- a form whose access has code 0
  abbrev pub Accepted : Form → Type 0
  Accepted f = is_done (access_code s.settings.base (length s.tags) (access_of f s)) ≡ true

  -- a store: its data and tags, then writeback
  store : (mode : Mode) (n amount granules tag : ℕ) (change : Change) (between : State) → sound s ≡ true
      → is_done (access_code s.settings.base (length s.tags) (access n (x_or_sp s.registers.x n) (address_of mode (x_or_sp s.registers.x n) amount) 16 granules true)) ≡ true
      → (Sized s.settings.base (length s.bytes) (length s.tags) → address_of mode (x_or_sp s.registers.x n) amount % 16 ≡ 0
      → all_inside s.settings.base (length s.tags) granules (address_of mode (x_or_sp s.registers.x n) amount) ≡ true
      → between ≡ stored change granules tag (index_of s.settings.base (address_of mode (x_or_sp s.registers.x n) amount)) s)
      → applied (store_effect mode n amount granules tag change s) s ≡ writeback mode n (onward (x_or_sp s.registers.x n) amount) between
  store mode n amount granules tag change between h k f =
      let rn = x_or_sp s.registers.x n in
      let rules = state_sized s.settings s.registers.status (length s.bytes) (length s.tags) h in
      let (z, v) = accepted s.settings.base (length s.tags) n rn (address_of mode rn amount) 16 granules true k in
      sym (ap (writeback mode n (onward rn amount)) (f rules z v) ∙ written_back mode n _ _)

  pub form_outcome : (f : Form) → sound s ≡ true → Accepted f → applied (form_effect f s) s ≡ operation f s
  form_outcome (AddSub op d n amount offset) h k = refl
  form_outcome (TwoSource Subp d n m) h k = refl
  form_outcome (TwoSource Subps d n m) h k = refl
  form_outcome (TwoSource Irg d n m) h k = refl
  form_outcome (TwoSource Gmi d n m) h k = refl
  form_outcome (Ldg t n amount) h k = refl
  form_outcome (TagStore op mode t n amount) h k =
      store mode n amount (granules_named op) _ (zeroing op) _ h k (λ rules z v. tags_stored _ s rules z op _ v)
  form_outcome (Stgp mode t t2 n amount) h k = store mode n amount 1 _ (pair (x_or_zero s.registers.x t) (x_or_zero s.registers.x t2)) _ h k (λ rules z v. pair_stored _ s rules z _ _ v)

-- a word leaves the state as it is, or with the effect of its form
pub word_either : (P : State → Type 0) (w : ℕ) (s : State) → sound s ≡ true → P s
    → ((f : Form) → decode_of w ≡ Some f → Accepted s f → P (applied (form_effect f s) s)) → P (word_outcome true w s).state
unfolding word_outcome lowest
word_either P w s h same after = go (decode_of w) refl
  where
    form : (f : Form) → decode_of w ≡ Some f → (t : Bool) → is_done (access_code s.settings.base (length s.tags) (access_of f s)) ≡ t
        → P (cond t (operation f s) s)
    form f e true k = subst P (form_outcome s f h k) (after f e k)
    form f e false k = same

    go : (d : Option Form) → decode_of w ≡ d → P (cond (is_done (code_of true d s)) (carried_out d s) s)
    go (Some f) e = form f e (is_done (access_code s.settings.base (length s.tags) (access_of f s))) refl
    go None e = same
