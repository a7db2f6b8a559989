-- The decoder's tests find the form of `decode_of`: a word is that of a form exactly if its bits outside the fields are the
-- form's fixed bits, and bits 31:22 leave few forms. Assumes nothing.
use Prim.Native.Nat.{ℕ, zero, suc, ◌+◌, ◌*◌, ◌^◌, ◌<◌}
use mathlib.Core.Path.{◌≡◌, refl, ap, sym, ◌∙◌}
use mathlib.Core.Bool.{Bool, true, false, cond, ◌&&◌, false≢true, and-eq-true_iff}
use native.Mathlib.Omega.{arith}
use lib.Dec.{eqb, eqb-suc-zero}
use borrow.Author.Tests.{eq-eqb, ne_eqb, eqb-true}
use Rattle.bits.specs.Fields.{bits_at}
use Rattle.bits.proofs.Fields.{bits, lows_up, lows_ends}
use Rattle.isa.specs.declared.Mode.{Mode}
use Rattle.isa.specs.declared.Mode.TheVariants.{Post, Pre, Offset}
use Rattle.isa.specs.declared.AddSubOp.{AddSubOp}
use Rattle.isa.specs.declared.AddSubOp.TheVariants.{Addg, Subg}
use Rattle.isa.specs.declared.TwoSourceOp.{TwoSourceOp}
use Rattle.isa.specs.declared.TwoSourceOp.TheVariants.{Subp, Subps, Irg, Gmi}
use Rattle.isa.specs.declared.TagStoreOp.{TagStoreOp}
use Rattle.isa.specs.declared.TagStoreOp.TheVariants.{Stg, Stzg, St2g, Stz2g}
use Rattle.std.proofs.Common.{Option, Some, None}
use Rattle.isa.specs.declared.Form.{Form}
use Rattle.isa.specs.Words.{add_sub_bits, two_source_bits, ldg_bits, tag_store_bits, mode_bits, stgp_bits, granule_count, word_of}
use Rattle.isa.specs.Decoding.{signed_amount, add_sub_at, two_source_at, ldg_at, tag_store_at, stgp_at, forms_at, form_of, decode_of}
use Rattle.isa.specs.Inside.DecodingBranches.{if_bit21, add_sub_branch, two_source_branch, subps_branch, ldg_branch, mode_branch}
use Rattle.isa.proofs.Amounts.{unsigned_count, imm9_count, simm7_count}
use Rattle.isa.proofs.Table.{add_sub_top, two_source_top, opcode, tag_store_top, stgp_top, add_sub_parts, two_source_parts, tag_store_parts, mode_small, stgp_parts}

-- an equation that says the same as others, as a test

iff : (a b : ℕ) (t : Bool) → (a ≡ b → t ≡ true) → (t ≡ true → a ≡ b) → eqb a b ≡ t
iff a b true f g = eq-eqb a b (g refl)
iff a b false f g = ne_eqb a b (λ e. false≢true (f e))

module _ {a b x y : ℕ} where
  one_test : (a ≡ b → x ≡ y) × (x ≡ y → a ≡ b) → eqb a b ≡ eqb x y
  one_test s = iff a b (eqb x y) (λ e. eq-eqb x y (s.0 e)) (λ t. s.1 (eqb-true x y t))

  module _ {u v : ℕ} where
    two_tests : (a ≡ b → (x ≡ y) × (u ≡ v)) × (x ≡ y → u ≡ v → a ≡ b) → eqb a b ≡ (eqb x y && eqb u v)
    two_tests s =
        iff a b (eqb x y && eqb u v) (λ e. simp (eq-eqb x y (s.0 e).0, eq-eqb u v (s.0 e).1))
        (λ t. s.1 (eqb-true x y ((and-eq-true_iff (eqb x y) (eqb u v)).0 t).0) (eqb-true u v ((and-eq-true_iff (eqb x y) (eqb u v)).0 t).1))

    three_tests : {p q : ℕ} → (a ≡ b → (x ≡ y) × (u ≡ v) × (p ≡ q)) × (x ≡ y → u ≡ v → p ≡ q → a ≡ b)
        → eqb a b ≡ (eqb x y && (eqb u v && eqb p q))
    three_tests {p} {q} s =
        iff a b (eqb x y && (eqb u v && eqb p q))
        (λ e. simp (eq-eqb x y (s.0 e).0, eq-eqb u v (s.0 e).1, eq-eqb p q (s.0 e).2))
        (λ t. let r = ((and-eq-true_iff (eqb x y) (eqb u v && eqb p q)).0 t).1 in
        s.1 (eqb-true x y ((and-eq-true_iff (eqb x y) (eqb u v && eqb p q)).0 t).0)
        (eqb-true u v ((and-eq-true_iff (eqb u v) (eqb p q)).0 r).0) (eqb-true p q ((and-eq-true_iff (eqb u v) (eqb p q)).0 r).1))

-- each form's word with w's fields is w, exactly if the other bits of w are the form's

module _ (w : ℕ) (h : w < 2 ^ 32) where
  add_sub_sum : (op : AddSubOp) → bits w 14 2 < 4
      → (add_sub_bits op + bits w 16 6 * 2 ^ 16 + bits w 10 4 * 2 ^ 10 + bits w 5 5 * 2 ^ 5 + bits w 0 5 ≡ w → (bits w 22 10 ≡ add_sub_top op) × (bits w 14 2 ≡ 0))
      × (bits w 22 10 ≡ add_sub_top op → bits w 14 2 ≡ 0 → add_sub_bits op + bits w 16 6 * 2 ^ 16 + bits w 10 4 * 2 ^ 10 + bits w 5 5 * 2 ^ 5 + bits w 0 5 ≡ w)
  add_sub_sum op l =
      let e : w ≡ bits w 22 10 * 2 ^ 22 + bits w 16 6 * 2 ^ 16 + bits w 14 2 * 2 ^ 14 + bits w 10 4 * 2 ^ 10 + bits w 5 5 * 2 ^ 5 + bits w 0 5 =
      omega (arith, lows_ends w 32 h, lows_up w 0 5, lows_up w 5 5, lows_up w 10 4, lows_up w 14 2, lows_up w 16 6, lows_up w 22 10) in (
        λ s. let t : bits w 22 10 ≡ add_sub_top op = omega (arith, add_sub_parts op) in (t, omega (arith, add_sub_parts op)),
        λ t z. omega (arith, add_sub_parts op),
      )

  two_source_sum : (op : TwoSourceOp) → bits w 21 1 < 2 → bits w 10 6 < 64
      → (two_source_bits op + bits w 16 5 * 2 ^ 16 + bits w 5 5 * 2 ^ 5 + bits w 0 5 ≡ w → (bits w 22 10 ≡ two_source_top op) × (bits w 21 1 ≡ 0) × (bits w 10 6 ≡ opcode op))
      × (bits w 22 10 ≡ two_source_top op → bits w 21 1 ≡ 0 → bits w 10 6 ≡ opcode op → two_source_bits op + bits w 16 5 * 2 ^ 16 + bits w 5 5 * 2 ^ 5 + bits w 0 5 ≡ w)
  two_source_sum op l m =
      let e : w ≡ bits w 22 10 * 2 ^ 22 + bits w 21 1 * 2 ^ 21 + bits w 16 5 * 2 ^ 16 + bits w 10 6 * 2 ^ 10 + bits w 5 5 * 2 ^ 5 + bits w 0 5 =
      omega (arith, lows_ends w 32 h, lows_up w 0 5, lows_up w 5 5, lows_up w 10 6, lows_up w 16 5, lows_up w 21 1, lows_up w 22 10) in (
        λ s. let t : bits w 22 10 ≡ two_source_top op = omega (arith, two_source_parts op) in
            let z : bits w 21 1 ≡ 0 = omega (arith, two_source_parts op) in
            (t, z, omega (arith, two_source_parts op)),
        λ t z o. omega (arith, two_source_parts op),
      )

  memory_tags_sum : (fixed top mode : ℕ) → fixed ≡ top * 2 ^ 22 + 2 ^ 21 → mode < 4 → bits w 21 1 < 2 → bits w 10 2 < 4
      → (fixed + bits w 12 9 * 2 ^ 12 + mode * 2 ^ 10 + bits w 5 5 * 2 ^ 5 + bits w 0 5 ≡ w → (bits w 22 10 ≡ top) × (bits w 21 1 ≡ 1) × (bits w 10 2 ≡ mode))
      × (bits w 22 10 ≡ top → bits w 21 1 ≡ 1 → bits w 10 2 ≡ mode → fixed + bits w 12 9 * 2 ^ 12 + mode * 2 ^ 10 + bits w 5 5 * 2 ^ 5 + bits w 0 5 ≡ w)
  memory_tags_sum fixed top mode p k l m =
      let e : w ≡ bits w 22 10 * 2 ^ 22 + bits w 21 1 * 2 ^ 21 + bits w 12 9 * 2 ^ 12 + bits w 10 2 * 2 ^ 10 + bits w 5 5 * 2 ^ 5 + bits w 0 5 =
      omega (arith, lows_ends w 32 h, lows_up w 0 5, lows_up w 5 5, lows_up w 10 2, lows_up w 12 9, lows_up w 21 1, lows_up w 22 10) in (
        λ s. let t : bits w 22 10 ≡ top = omega arith in
            let z : bits w 21 1 ≡ 1 = omega arith in
            (t, z, omega arith),
        λ t z o. omega arith,
      )

  stgp_sum : (mode : Mode)
      → (stgp_bits mode + bits w 15 7 * 2 ^ 15 + bits w 10 5 * 2 ^ 10 + bits w 5 5 * 2 ^ 5 + bits w 0 5 ≡ w → bits w 22 10 ≡ stgp_top mode)
      × (bits w 22 10 ≡ stgp_top mode → stgp_bits mode + bits w 15 7 * 2 ^ 15 + bits w 10 5 * 2 ^ 10 + bits w 5 5 * 2 ^ 5 + bits w 0 5 ≡ w)
  stgp_sum mode =
      let e : w ≡ bits w 22 10 * 2 ^ 22 + bits w 15 7 * 2 ^ 15 + bits w 10 5 * 2 ^ 10 + bits w 5 5 * 2 ^ 5 + bits w 0 5 =
      omega (arith, lows_ends w 32 h, lows_up w 0 5, lows_up w 5 5, lows_up w 10 5, lows_up w 15 7, lows_up w 22 10) in
      (λ s. omega (arith, stgp_parts mode), λ t. omega (arith, stgp_parts mode))

  add_sub_row_lem : (op : AddSubOp) → eqb (word_of (add_sub_at op w)) w ≡ (eqb (bits_at w 22 10) (add_sub_top op) && eqb (bits_at w 14 2) 0)
  unfolding bits
  add_sub_row_lem op =
      ap (λ (i : ℕ). eqb (add_sub_bits op + i * 2 ^ 16 + bits_at w 10 4 * 2 ^ 10 + bits_at w 5 5 * 2 ^ 5 + bits_at w 0 5) w)
      (unsigned_count (bits_at w 16 6) (omega arith))
      ∙ two_tests (add_sub_sum op (omega arith))

  two_source_row_lem : (op : TwoSourceOp) → eqb (word_of (two_source_at op w)) w
      ≡ (eqb (bits_at w 22 10) (two_source_top op) && (eqb (bits_at w 21 1) 0 && eqb (bits_at w 10 6) (opcode op)))
  unfolding bits
  two_source_row_lem op = three_tests (two_source_sum op (omega arith) (omega arith))

  memory_tags_row : (fixed top mode : ℕ) → fixed ≡ top * 2 ^ 22 + 2 ^ 21 → mode < 4
      → eqb (fixed + granule_count 9 (signed_amount 256 (bits_at w 12 9)) * 2 ^ 12 + mode * 2 ^ 10 + bits_at w 5 5 * 2 ^ 5 + bits_at w 0 5) w
      ≡ (eqb (bits_at w 22 10) top && (eqb (bits_at w 21 1) 1 && eqb (bits_at w 10 2) mode))
  unfolding bits
  memory_tags_row fixed top mode p k =
      ap (λ (i : ℕ). eqb (fixed + i * 2 ^ 12 + mode * 2 ^ 10 + bits_at w 5 5 * 2 ^ 5 + bits_at w 0 5) w)
      (imm9_count (bits_at w 12 9) (omega arith))
      ∙ three_tests (memory_tags_sum fixed top mode p k (omega arith) (omega arith))

  tag_store_row_lem : (op : TagStoreOp) (mode : Mode) → eqb (word_of (tag_store_at op mode w)) w
      ≡ (eqb (bits_at w 22 10) (tag_store_top op) && (eqb (bits_at w 21 1) 1 && eqb (bits_at w 10 2) (mode_bits mode)))
  tag_store_row_lem op mode =
      memory_tags_row (tag_store_bits op) (tag_store_top op) (mode_bits mode) (tag_store_parts op).0 (mode_small mode)

  -- LDG is a tag store of mode 0
  ldg_row_lem : eqb (word_of (ldg_at w)) w
      ≡ (eqb (bits_at w 22 10) (tag_store_top Stzg) && (eqb (bits_at w 21 1) 1 && eqb (bits_at w 10 2) 0))
  ldg_row_lem =
      let zero-mode : word_of (ldg_at w) ≡ ldg_bits + granule_count 9 (signed_amount 256 (bits_at w 12 9)) * 2 ^ 12 + 0 * 2 ^ 10 + bits_at w 5 5 * 2 ^ 5 + bits_at w 0 5 =
      omega arith in
      ap (λ (k : ℕ). eqb k w) zero-mode ∙ memory_tags_row ldg_bits (tag_store_top Stzg) 0 refl (omega arith)

  stgp_row_lem : (mode : Mode) → eqb (word_of (stgp_at mode w)) w ≡ eqb (bits_at w 22 10) (stgp_top mode)
  unfolding bits
  stgp_row_lem mode =
      ap (λ (i : ℕ). eqb (stgp_bits mode + i * 2 ^ 15 + bits_at w 10 5 * 2 ^ 10 + bits_at w 5 5 * 2 ^ 5 + bits_at w 0 5) w)
      (simm7_count (bits_at w 15 7) (omega arith))
      ∙ one_test (stgp_sum mode)

-- the rows as tests of w's bits, bits 31:22 apart

module _ (top w : ℕ) where
  abbrev add_sub_row : AddSubOp → Option Form → Option Form
  add_sub_row op rest = cond (eqb top (add_sub_top op) && eqb (bits_at w 14 2) 0) (Some (add_sub_at op w)) rest

  abbrev two_source_row : TwoSourceOp → Option Form → Option Form
  two_source_row op rest =
      cond (eqb top (two_source_top op) && (eqb (bits_at w 21 1) 0 && eqb (bits_at w 10 6) (opcode op))) (Some (two_source_at op w)) rest

  abbrev ldg_row : Option Form → Option Form
  ldg_row rest = cond (eqb top (tag_store_top Stzg) && (eqb (bits_at w 21 1) 1 && eqb (bits_at w 10 2) 0)) (Some (ldg_at w)) rest

  abbrev tag_store_row : TagStoreOp → Mode → Option Form → Option Form
  tag_store_row op mode rest =
      cond (eqb top (tag_store_top op) && (eqb (bits_at w 21 1) 1 && eqb (bits_at w 10 2) (mode_bits mode))) (Some (tag_store_at op mode w)) rest

  abbrev stgp_row : Mode → Option Form → Option Form
  stgp_row mode rest = cond (eqb top (stgp_top mode)) (Some (stgp_at mode w)) rest

  abbrev store_rows : TagStoreOp → Option Form → Option Form
  store_rows op rest = tag_store_row op Post (tag_store_row op Pre (tag_store_row op Offset rest))

  abbrev rows : Option Form
  rows =
      add_sub_row Addg (add_sub_row Subg
      (two_source_row Subp (two_source_row Subps (two_source_row Irg (two_source_row Gmi
      (ldg_row
      (store_rows Stg (store_rows Stzg (store_rows St2g (store_rows Stz2g
      (stgp_row Post (stgp_row Pre (stgp_row Offset None)))))))))))))

by_rows : (w : ℕ) → w < 2 ^ 32 → decode_of w ≡ rows (bits_at w 22 10) w
unfolding decode_of forms_at form_of
by_rows w h =
    simp (
      add_sub_row_lem w h Addg,
      add_sub_row_lem w h Subg,
      two_source_row_lem w h Subp,
      two_source_row_lem w h Subps,
      two_source_row_lem w h Irg,
      two_source_row_lem w h Gmi,
      ldg_row_lem w h,
      tag_store_row_lem w h,
      stgp_row_lem w h,
    )

-- the rows that bits 31:22 leave, one set for each value

guard_two_source : (t : Bool) (w : ℕ)
    → cond (t && eqb (bits_at w 10 6) 0) (Some (two_source_at Subp w))
    (cond (t && eqb (bits_at w 10 6) 4) (Some (two_source_at Irg w)) (cond (t && eqb (bits_at w 10 6) 5) (Some (two_source_at Gmi w)) None))
    ≡ cond t (two_source_branch (bits_at w 10 6) w) None
guard_two_source true w = refl
guard_two_source false w = refl

guard_subps : (t : Bool) (w : ℕ)
    → cond (t && eqb (bits_at w 10 6) 0) (Some (two_source_at Subps w)) None ≡ cond t (subps_branch (bits_at w 10 6) w) None
guard_subps true w = refl
guard_subps false w = refl

-- the rows of one operation's stores as the branch by their mode: two bits that are not zero are those of a mode
module _ (op : TagStoreOp) (w : ℕ) where
  abbrev guarded : Bool → ℕ → Option Form
  guarded t m =
      cond (t && eqb m 1) (Some (tag_store_at op Post w))
      (cond (t && eqb m 3) (Some (tag_store_at op Pre w)) (cond (t && eqb m 2) (Some (tag_store_at op Offset w)) None))

  by_mode : (m : ℕ) → m < 4 → cond (eqb m 0) (ldg_branch op w) (guarded true m) ≡ mode_branch m op w
  by_mode zero l = refl
  by_mode (suc zero) l = refl
  by_mode (suc (suc zero)) l = refl
  by_mode (suc (suc (suc zero))) l = refl
  by_mode (suc (suc (suc (suc m)))) l = absurd (omega (arith, l))

  guard_stores : (t : Bool) (m : ℕ) → m < 4
      → cond (t && eqb m 0) (ldg_branch op w) (guarded t m) ≡ cond t (mode_branch m op w) None
  guard_stores true m l = by_mode m l
  guard_stores false m l = refl

  -- an operation with no LDG: mode 0 finds nothing
  guard_no_ldg : (t : Bool) (m : ℕ) → m < 4 → ldg_branch op w ≡ None → guarded t m ≡ cond t (mode_branch m op w) None
  guard_no_ldg true zero l e = sym e
  guard_no_ldg true (suc m) l e = simp (eqb-suc-zero m) (simp (eqb-suc-zero m) at (by_mode (suc m) l))
  guard_no_ldg false m l e = refl

at_add_sub : (op : AddSubOp) (w : ℕ) → rows (add_sub_top op) w ≡ add_sub_branch op w
at_add_sub Addg w = refl
at_add_sub Subg w = refl

at_two_source : (w : ℕ) → rows (two_source_top Subp) w ≡ if_bit21 w 0 (two_source_branch (bits_at w 10 6) w)
at_two_source w = guard_two_source (eqb (bits_at w 21 1) 0) w

at_subps : (w : ℕ) → rows (two_source_top Subps) w ≡ if_bit21 w 0 (subps_branch (bits_at w 10 6) w)
at_subps w = guard_subps (eqb (bits_at w 21 1) 0) w

at_memory_tags : (op : TagStoreOp) (w : ℕ) → rows (tag_store_top op) w ≡ if_bit21 w 1 (mode_branch (bits_at w 10 2) op w)
at_memory_tags Stg w = guard_no_ldg Stg w (eqb (bits_at w 21 1) 1) (bits_at w 10 2) (omega arith) refl
at_memory_tags Stzg w = guard_stores Stzg w (eqb (bits_at w 21 1) 1) (bits_at w 10 2) (omega arith)
at_memory_tags St2g w = guard_no_ldg St2g w (eqb (bits_at w 21 1) 1) (bits_at w 10 2) (omega arith) refl
at_memory_tags Stz2g w = guard_no_ldg Stz2g w (eqb (bits_at w 21 1) 1) (bits_at w 10 2) (omega arith) refl

at_stgp : (mode : Mode) (w : ℕ) → rows (stgp_top mode) w ≡ Some (stgp_at mode w)
at_stgp Post w = refl
at_stgp Pre w = refl
at_stgp Offset w = refl

module _ (w : ℕ) (h : w < 2 ^ 32) where
  by_top : (top : ℕ) → bits_at w 22 10 ≡ top → decode_of w ≡ rows top w
  by_top top e = by_rows w h ∙ ap (λ (k : ℕ). rows k w) e

  pub decode_add_sub : (op : AddSubOp) → bits_at w 22 10 ≡ add_sub_top op → decode_of w ≡ add_sub_branch op w
  decode_add_sub op e = by_top (add_sub_top op) e ∙ at_add_sub op w

  pub decode_two_source : bits_at w 22 10 ≡ two_source_top Subp → decode_of w ≡ if_bit21 w 0 (two_source_branch (bits_at w 10 6) w)
  decode_two_source e = by_top (two_source_top Subp) e ∙ at_two_source w

  pub decode_subps : bits_at w 22 10 ≡ two_source_top Subps → decode_of w ≡ if_bit21 w 0 (subps_branch (bits_at w 10 6) w)
  decode_subps e = by_top (two_source_top Subps) e ∙ at_subps w

  pub decode_memory_tags : (op : TagStoreOp) → bits_at w 22 10 ≡ tag_store_top op
      → decode_of w ≡ if_bit21 w 1 (mode_branch (bits_at w 10 2) op w)
  decode_memory_tags op e = by_top (tag_store_top op) e ∙ at_memory_tags op w

  pub decode_stgp : (mode : Mode) → bits_at w 22 10 ≡ stgp_top mode → decode_of w ≡ Some (stgp_at mode w)
  decode_stgp mode e = by_top (stgp_top mode) e ∙ at_stgp mode w

-- no form has other bits 31:22
module _ (w : ℕ) (h : w < 2 ^ 32) where
  abbrev Not : ℕ → Type 0
  Not top = bits_at w 22 10 ≡ top → ⊥

  pub decode_none : Not (add_sub_top Addg) → Not (add_sub_top Subg) → Not (two_source_top Subp) → Not (two_source_top Subps)
      → Not (tag_store_top Stg) → Not (tag_store_top Stzg) → Not (tag_store_top St2g) → Not (tag_store_top Stz2g)
      → Not (stgp_top Post) → Not (stgp_top Pre) → Not (stgp_top Offset) → decode_of w ≡ None
  decode_none addg subg subp subps stg stzg st2g stz2g post pre off =
      by_rows w h
      ∙ simp (
        ne_eqb _ _ addg,
        ne_eqb _ _ subg,
        ne_eqb _ _ subp,
        ne_eqb _ _ subps,
        ne_eqb _ _ stg,
        ne_eqb _ _ stzg,
        ne_eqb _ _ st2g,
        ne_eqb _ _ stz2g,
        ne_eqb _ _ post,
        ne_eqb _ _ pre,
        ne_eqb _ _ off,
      )
