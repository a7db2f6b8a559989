-- The round trips of specs/RoundTrip: a form's word decodes to the form, and the form of a word encodes to the word.
-- Assumes nothing.
use Prim.Native.Nat.{ℕ, ◌+◌, ◌*◌, ◌^◌, ◌<◌}
use mathlib.Core.Path.{◌≡◌, refl, sym, ap, ◌∙◌}
use mathlib.Core.Bool.{Bool, true, false, cond}
use mathlib.Core.List.{List, [], ◌∷◌}
use native.Mathlib.Omega.{arith}
use lib.Dec.{eqb}
use borrow.Author.Tests.{le-leb, leb-true, eqb-true}
use Rattle.bits.specs.Fields.{bits_at}
use Rattle.bits.proofs.Fields.{field_lt}
use Rattle.isa.specs.declared.Mode.{Mode}
use Rattle.isa.specs.declared.Mode.TheVariants.{Post, Pre, Offset}
use Rattle.isa.specs.declared.AddSubOp.{AddSubOp}
use Rattle.isa.specs.declared.AddSubOp.TheVariants.{Addg, Subg}
use Rattle.isa.specs.declared.TwoSourceOp.{TwoSourceOp}
use Rattle.isa.specs.declared.TwoSourceOp.TheVariants.{Subp, Subps, Irg, Gmi}
use Rattle.isa.specs.declared.TagStoreOp.{TagStoreOp}
use Rattle.isa.specs.declared.TagStoreOp.TheVariants.{Stg, Stzg, St2g, Stz2g}
use Rattle.isa.specs.declared.Form.{Form}
use Rattle.isa.specs.declared.Form.TheVariants.{AddSub, TwoSource, Ldg, TagStore, Stgp}
use Rattle.std.proofs.Common.{Option, Some, None}
use Rattle.isa.specs.Words.{mode_bits, granule_count, word_of}
use Rattle.isa.specs.Decoding.{add_sub_at, two_source_at, ldg_at, tag_store_at, stgp_at, forms_at, form_of, decode_of}
use Rattle.isa.specs.Encoding.{register, amount_in, fields_fit, encode_of}
use Rattle.isa.specs.RoundTrip.{RoundTrip}
use Rattle.isa.proofs.Amounts.{unsigned_in, unsigned_back, imm9_in, imm9_back, simm7_in, simm7_back}
use Rattle.isa.proofs.Decoding.{decode_add_sub, decode_two_source, decode_subps, decode_memory_tags, decode_stgp}
use Rattle.isa.proofs.Fits.{two_registers, three_fields}
use Rattle.isa.proofs.Table.{add_sub_top, two_source_top, opcode, tag_store_top, stgp_top, add_sub_parts, two_source_parts, tag_store_parts, mode_small, stgp_parts}

-- the fields of a word that is put together from them

add_sub_fields : (w t i o n d : ℕ) → w ≡ t * 2 ^ 22 + i * 2 ^ 16 + o * 2 ^ 10 + n * 2 ^ 5 + d → t < 1024 → i < 64 → o < 16 → n < 32 → d < 32
    → (bits_at w 22 10 ≡ t) × (bits_at w 16 6 ≡ i) × (bits_at w 14 2 ≡ 0) × (bits_at w 10 4 ≡ o) × (bits_at w 5 5 ≡ n) × (bits_at w 0 5 ≡ d)
add_sub_fields w t i o n d e ht hi ho hn hd = omega arith

two_source_fields : (w t m o n d : ℕ) → w ≡ t * 2 ^ 22 + m * 2 ^ 16 + o * 2 ^ 10 + n * 2 ^ 5 + d → t < 1024 → m < 32 → o < 64 → n < 32 → d < 32
    → (bits_at w 22 10 ≡ t) × (bits_at w 21 1 ≡ 0) × (bits_at w 16 5 ≡ m) × (bits_at w 10 6 ≡ o) × (bits_at w 5 5 ≡ n) × (bits_at w 0 5 ≡ d)
two_source_fields w t m o n d e ht hm ho hn hd = omega arith

memory_tags_fields : (w t i m n d : ℕ) → w ≡ t * 2 ^ 22 + 2 ^ 21 + i * 2 ^ 12 + m * 2 ^ 10 + n * 2 ^ 5 + d → t < 1024 → i < 512 → m < 4 → n < 32 → d < 32
    → (bits_at w 22 10 ≡ t) × (bits_at w 21 1 ≡ 1) × (bits_at w 12 9 ≡ i) × (bits_at w 10 2 ≡ m) × (bits_at w 5 5 ≡ n) × (bits_at w 0 5 ≡ d)
memory_tags_fields w t i m n d e ht hi hm hn hd = omega arith

stgp_fields : (w t i m n d : ℕ) → w ≡ t * 2 ^ 22 + i * 2 ^ 15 + m * 2 ^ 10 + n * 2 ^ 5 + d → t < 1024 → i < 128 → m < 32 → n < 32 → d < 32
    → (bits_at w 22 10 ≡ t) × (bits_at w 15 7 ≡ i) × (bits_at w 10 5 ≡ m) × (bits_at w 5 5 ≡ n) × (bits_at w 0 5 ≡ d)
stgp_fields w t i m n d e ht hi hm hn hd = omega arith

-- the word of a form whose fields are in range has 32 bits

narrow : (f : Form) → fields_fit f ≡ true → word_of f < 2 ^ 32
narrow (AddSub op d n amount offset) h = omega (arith, add_sub_parts op, three_fields d n offset 15 (amount_in 0 1008 amount) h)
narrow (TwoSource op d n m) h = omega (arith, two_source_parts op, two_registers d n (register m) h, leb-true m 31 (two_registers d n (register m) h).2)
narrow (Ldg t n amount) h = omega (arith, two_registers t n (amount_in 4096 4080 amount) h)
narrow (TagStore op mode t n amount) h = omega (arith, tag_store_parts op, mode_small mode, two_registers t n (amount_in 4096 4080 amount) h)
narrow (Stgp mode t t2 n amount) h = omega (arith, stgp_parts mode, three_fields t t2 n 31 (amount_in 1024 1008 amount) h)

-- and decodes to the form

two_source_found : (op : TwoSourceOp) (w : ℕ) → w < 2 ^ 32 → bits_at w 22 10 ≡ two_source_top op → bits_at w 21 1 ≡ 0 → bits_at w 10 6 ≡ opcode op
    → decode_of w ≡ Some (two_source_at op w)
two_source_found Subp w h t z o = decode_two_source w h t ∙ simp (z, o)
two_source_found Subps w h t z o = decode_subps w h t ∙ simp (z, o)
two_source_found Irg w h t z o = decode_two_source w h t ∙ simp (z, o)
two_source_found Gmi w h t z o = decode_two_source w h t ∙ simp (z, o)

tag_store_found : (op : TagStoreOp) (mode : Mode) (w : ℕ) → w < 2 ^ 32 → bits_at w 22 10 ≡ tag_store_top op → bits_at w 21 1 ≡ 1 → bits_at w 10 2 ≡ mode_bits mode
    → decode_of w ≡ Some (tag_store_at op mode w)
tag_store_found op Post w h t z m = decode_memory_tags w h op t ∙ simp (z, m)
tag_store_found op Pre w h t z m = decode_memory_tags w h op t ∙ simp (z, m)
tag_store_found op Offset w h t z m = decode_memory_tags w h op t ∙ simp (z, m)

decodes : (f : Form) → fields_fit f ≡ true → decode_of (word_of f) ≡ Some f
decodes (AddSub op d n amount offset) h =
    let b = three_fields d n offset 15 (amount_in 0 1008 amount) h in
    let w = word_of (AddSub op d n amount offset) in
    let p = add_sub_parts op in
    let q = add_sub_fields w (add_sub_top op) (granule_count 6 amount) offset n d (omega arith) p.1 (omega arith) (omega arith) (omega arith) (omega arith) in
    decode_add_sub w (narrow (AddSub op d n amount offset) h) op q.0 ∙ simp (q.2, q.5, q.4, q.1, q.3, unsigned_back amount b.3)
decodes (TwoSource op d n m) h =
    let b = two_registers d n (register m) h in
    let k = leb-true m 31 b.2 in
    let w = word_of (TwoSource op d n m) in
    let p = two_source_parts op in
    let q = two_source_fields w (two_source_top op) m (opcode op) n d (omega arith) p.1 (omega arith) p.2 (omega arith) (omega arith) in
    two_source_found op w (narrow (TwoSource op d n m) h) q.0 q.1 q.3 ∙ simp (q.5, q.4, q.2)
decodes (Ldg t n amount) h =
    let b = two_registers t n (amount_in 4096 4080 amount) h in
    let w = word_of (Ldg t n amount) in
    let q = memory_tags_fields w (tag_store_top Stzg) (granule_count 9 amount) 0 n t (omega arith) (omega arith) (omega arith) (omega arith) (omega arith) (omega arith) in
    decode_memory_tags w (narrow (Ldg t n amount) h) Stzg q.0 ∙ simp (q.1, q.3, q.5, q.4, q.2, imm9_back amount b.2)
decodes (TagStore op mode t n amount) h =
    let b = two_registers t n (amount_in 4096 4080 amount) h in
    let w = word_of (TagStore op mode t n amount) in
    let p = tag_store_parts op in
    let q = memory_tags_fields w (tag_store_top op) (granule_count 9 amount) (mode_bits mode) n t (omega arith) p.1 (omega arith) (mode_small mode) (omega arith) (omega arith) in
    tag_store_found op mode w (narrow (TagStore op mode t n amount) h) q.0 q.1 q.3 ∙ simp (q.5, q.4, q.2, imm9_back amount b.2)
decodes (Stgp mode t t2 n amount) h =
    let b = three_fields t t2 n 31 (amount_in 1024 1008 amount) h in
    let w = word_of (Stgp mode t t2 n amount) in
    let p = stgp_parts mode in
    let q = stgp_fields w (stgp_top mode) (granule_count 7 amount) t2 n t (omega arith) p.1 (omega arith) (omega arith) (omega arith) (omega arith) in
    decode_stgp w (narrow (Stgp mode t t2 n amount) h) mode q.0 ∙ simp (q.4, q.3, q.2, q.1, simm7_back amount b.3)

-- the other way: what is found among forms whose fields are in range

data AllFit : List Form → Type 0 where
  none : AllFit []
  more : {f : Form} {fs : List Form} → fields_fit f ≡ true → AllFit fs → AllFit (f ∷ fs)

abbrev Encodes : Form → ℕ → Type 0
Encodes f w = (fields_fit f ≡ true) × (word_of f ≡ w)

found_at : (w : ℕ) (f g : Form) (t : Bool) (rest : Option Form) → eqb (word_of g) w ≡ t → fields_fit g ≡ true → (rest ≡ Some f → Encodes f w)
    → cond t (Some g) rest ≡ Some f → Encodes f w
found_at w f g true rest p fit next e =
    let same : g ≡ f = cc in (ap fields_fit (sym same) ∙ fit, ap word_of (sym same) ∙ eqb-true (word_of g) w p)
found_at w f g false rest p fit next e = next e

found : (w : ℕ) (f : Form) {fs : List Form} → AllFit fs → form_of w fs ≡ Some f → Encodes f w
unfolding form_of
found w f none e = absurd (cc)
found w f (more {f = g} {fs = gs} fit rest) e = found_at w f g (eqb (word_of g) w) (form_of w gs) refl fit (found w f rest) e

-- the fields of a word are in range

module _ (w : ℕ) where
  field_fits : (low : ℕ) → register (bits_at w low 5) ≡ true
  field_fits low = le-leb (bits_at w low 5) 31 (omega (arith, field_lt w low 5))

  add_sub_fit : (op : AddSubOp) → fields_fit (add_sub_at op w) ≡ true
  add_sub_fit op =
      simp (field_fits 0, field_fits 5, le-leb (bits_at w 10 4) 15 (omega arith), unsigned_in (bits_at w 16 6) (omega arith))

  two_source_fit : (op : TwoSourceOp) → fields_fit (two_source_at op w) ≡ true
  two_source_fit op = simp (field_fits 0, field_fits 5, field_fits 16)

  ldg_fit : fields_fit (ldg_at w) ≡ true
  ldg_fit = simp (field_fits 0, field_fits 5, imm9_in (bits_at w 12 9) (omega arith))

  stgp_fit : (mode : Mode) → fields_fit (stgp_at mode w) ≡ true
  stgp_fit mode =
      simp (field_fits 0, field_fits 5, field_fits 10, simm7_in (bits_at w 15 7) (omega arith))

  -- a tag store has the fields of LDG
  stores_fit : (op : TagStoreOp) {fs : List Form} → AllFit fs
      → AllFit (tag_store_at op Post w ∷ tag_store_at op Pre w ∷ tag_store_at op Offset w ∷ fs)
  stores_fit op rest = more ldg_fit (more ldg_fit (more ldg_fit rest))

  all_fit : AllFit (forms_at w)
  unfolding forms_at
  all_fit =
      more (add_sub_fit Addg) (more (add_sub_fit Subg)
      (more (two_source_fit Subp) (more (two_source_fit Subps) (more (two_source_fit Irg) (more (two_source_fit Gmi)
      (more ldg_fit
      (stores_fit Stg (stores_fit Stzg (stores_fit St2g (stores_fit Stz2g
      (more (stgp_fit Post) (more (stgp_fit Pre) (more (stgp_fit Offset) none)))))))))))))

encodes : (f : Form) → fields_fit f ≡ true → encode_of f ≡ Some (word_of f)
unfolding encode_of
encodes f h = simp h

refuses : (f : Form) → fields_fit f ≡ false → encode_of f ≡ None
unfolding encode_of
refuses f h = simp h

reads_back : (w : ℕ) (f : Form) → decode_of w ≡ Some f → encode_of f ≡ Some w
unfolding decode_of
reads_back w f e = let r = found w f (all_fit w) e in encodes f r.0 ∙ ap Some r.1

pub round_trip : RoundTrip
round_trip = record { encodes = encodes; narrow = narrow; decodes = decodes; refuses = refuses; reads_back = reads_back }

-- the fields of a decoded form are in range
pub decoded_fits : (w : ℕ) (f : Form) → decode_of w ≡ Some f → fields_fit f ≡ true
unfolding decode_of
decoded_fits w f e = (found w f (all_fit w) e).0
