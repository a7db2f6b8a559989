-- A word leaves the seed, the data bytes and the tag bytes within their widths. Assumes nothing.
use Rattle.std.proofs.Common.{◌≡◌, ℕ, zero, suc, ◌*◌, ◌/◌, ◌^◌, ◌<◌, Bool, true, false, List, [], ◌∷◌, ◌++◌, get_or, set, replicate, mod-lt, arith}
use lib.Seq.{sets}
use Rattle.bits.specs.LittleEndian.{low_bytes, bytes_of}
use Rattle.bits.proofs.Fields.{field_lt}
use Rattle.isa.specs.declared.TwoSourceOp.TheVariants.{Subp, Subps, Irg, Gmi}
use Rattle.isa.specs.declared.Form.{Form}
use Rattle.isa.specs.declared.Form.TheVariants.{AddSub, TwoSource, Ldg, TagStore, Stgp}
use Rattle.tag.proofs.RandomBits.{seed_lt}
use Rattle.memory.specs.Stores.{pair_bytes}
use Rattle.machine.specs.State.{State, Typed}
use Rattle.machine.specs.Setup.{sound}
use Rattle.machine.specs.Registers.{x_or_sp}
use Rattle.instructions.specs.Accesses.{address_of}
use Rattle.instructions.specs.WordOutcomes.{word_outcome}
use Rattle.instructions.specs.Inside.Effects.{Change, kept, zeroed, pair, new_bytes, new_tags, form_effect}
use Rattle.instructions.proofs.Outcomes.{word_either}
use Rattle.instructions.proofs.Statuses.{form_status}

abbrev Bytes : List ℕ → Type 0
Bytes l = (i : ℕ) → get_or l i 0 < 2 ^ 8

-- a run of stores of bytes leaves bytes

set_bytes : (l : List ℕ) (i v : ℕ) → Bytes l → v < 2 ^ 8 → Bytes (set l i v)
set_bytes [] i v p q j = p j
set_bytes (b ∷ l) zero v p q zero = q
set_bytes (b ∷ l) zero v p q (suc j) = p (suc j)
set_bytes (b ∷ l) (suc i) v p q zero = p zero
set_bytes (b ∷ l) (suc i) v p q (suc j) = set_bytes l i v (λ k. p (suc k)) q j

sets_bytes : (vs l : List ℕ) (i : ℕ) → Bytes l → Bytes vs → Bytes (sets l i vs)
sets_bytes [] l i p q = p
sets_bytes (v ∷ vs) l i p q = sets_bytes vs (set l i v) (suc i) (set_bytes l i v p (q zero)) (λ j. q (suc j))

-- the bytes that an effect writes are bytes

append_bytes : (l m : List ℕ) → Bytes l → Bytes m → Bytes (l ++ m)
append_bytes [] m p q i = q i
append_bytes (b ∷ l) m p q zero = p zero
append_bytes (b ∷ l) m p q (suc i) = append_bytes l m (λ j. p (suc j)) q i

low_bytes_lem : (n v : ℕ) → Bytes (low_bytes n v)
unfolding low_bytes
low_bytes_lem zero v i = omega arith
low_bytes_lem (suc n) v zero = mod-lt v (omega arith)
low_bytes_lem (suc n) v (suc i) = low_bytes_lem n (v / 256) i

zero_bytes_lem : (n : ℕ) → Bytes (replicate n 0)
zero_bytes_lem zero i = omega arith
zero_bytes_lem (suc n) zero = omega arith
zero_bytes_lem (suc n) (suc i) = zero_bytes_lem n i

pair_bytes_lem : (low high : ℕ) → Bytes (pair_bytes low high)
pair_bytes_lem low high = append_bytes (bytes_of low) (bytes_of high) (low_bytes_lem 8 low) (low_bytes_lem 8 high)

new_bytes_lem : (change : Change) (n : ℕ) → Bytes (new_bytes change n)
new_bytes_lem kept n = λ i. omega arith
new_bytes_lem zeroed n = zero_bytes_lem (16 * n)
new_bytes_lem (pair low high) n = pair_bytes_lem low high

-- the tags that it stores are tags

equal_tags : (n tag : ℕ) → tag < 2 ^ 8 → Bytes (replicate n tag)
equal_tags zero tag h i = omega arith
equal_tags (suc n) tag h zero = h
equal_tags (suc n) tag h (suc i) = equal_tags n tag h i

new_tags_lem : (n tag : ℕ) (tagged : Bool) → tag < 2 ^ 8 → Bytes (new_tags n tagged tag)
new_tags_lem n tag true h = equal_tags n tag h
new_tags_lem n tag false h = λ i. omega arith

form_tag : (f : Form) (s : State) → (form_effect f s).tag < 2 ^ 8
form_tag (AddSub op d n amount offset) s = omega arith
form_tag (TwoSource Subp d n m) s = omega arith
form_tag (TwoSource Subps d n m) s = omega arith
form_tag (TwoSource Irg d n m) s = omega arith
form_tag (TwoSource Gmi d n m) s = omega arith
form_tag (Ldg t n amount) s = omega arith
form_tag (TagStore op mode t n amount) s = omega (arith, field_lt (x_or_sp s.registers.x t) 56 4)
form_tag (Stgp mode t t2 n amount) s = omega (arith, field_lt (address_of mode (x_or_sp s.registers.x n) amount) 56 4)

form_seed : (s : State) → Typed s → (f : Form) → (form_effect f s).status.seed < 2 ^ 16
form_seed s t =
    form_status (λ status. status.seed < 2 ^ 16) s t.seed (λ flags k. t.seed) (λ mask. seed_lt s.registers.status.seed t.seed)

pub word_typed : (w : ℕ) (s : State) → sound s ≡ true → Typed s → Typed (word_outcome true w s).state
word_typed w s h t =
    word_either Typed w s h t
    (λ f p k.
    let e = form_effect f s in
    record {
      seed = form_seed s t f;
      bytes = sets_bytes (new_bytes e.change e.granules) s.bytes (16 * e.first) t.bytes (new_bytes_lem e.change e.granules);
      tags =
          sets_bytes (new_tags e.granules e.tagged e.tag) s.tags e.first t.tags
          (new_tags_lem e.granules e.tag e.tagged (form_tag f s));
    })
