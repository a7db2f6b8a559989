-- The reader's method finds what a text is read to. Assumes nothing.
use Rattle.std.proofs.Common.{Option, Some, None, Result, Ok, Err}
use Rattle.std.specs.Str.{bytes_eq}
use Rattle.std.proofs.lemmas.Bool.Decides.{same_from_decides}
use Rattle.std.proofs.lemmas.Slice.Eq.{bytes_eq-Decides}
use Prim.Native.Nat.{ℕ, zero, suc, ◌+◌, ◌-◌, ◌%◌, ◌^◌, ◌<◌}
use native.Mathlib.Nat.{not-suc-le-zero}
use native.Mathlib.Omega.{arith}
use mathlib.Core.Path.{◌≡◌, refl, ap, sym, ◌∙◌, subst}
use mathlib.Core.Bool.{Bool, true, false, cond, ◌&&◌, ◌||◌, and-eq-true_iff}
use mathlib.Core.List.{List, [], ◌∷◌}
use mathlib.Core.Logic.{⊎_elim}
use borrow.Author.Tests.{leb-true, eqb-true, eq-eqb, lt-leb, le-ltb}
use lib.Dec.{leb, ltb, eqb}
use lib.ListN.{length}
use Rattle.text.specs.Lines.{starts}
use Rattle.isa.specs.Decoding.{decode_of}
use Rattle.isa.specs.Encoding.{register, amount_in, fields_fit, encode_of}
use Rattle.isa.specs.declared.Mode.TheVariants.{Post, Pre, Offset}
use Rattle.isa.specs.declared.AddSubOp.TheVariants.{Addg, Subg}
use Rattle.isa.specs.declared.TwoSourceOp.TheVariants.{Subp, Subps, Irg, Gmi}
use Rattle.isa.specs.declared.TagStoreOp.{TagStoreOp}
use Rattle.isa.specs.declared.TagStoreOp.TheVariants.{Stg, Stzg, St2g, Stz2g}
use Rattle.isa.specs.declared.Form.{Form}
use Rattle.isa.specs.declared.Form.TheVariants.{AddSub, TwoSource, Ldg, TagStore, Stgp}
use Rattle.isa.specs.Words.{word_of}
use Rattle.isa.proofs.Fits.{two_registers, three_fields}
use Rattle.isa.proofs.RoundTrip.{round_trip, decoded_fits}
use Rattle.templates.specs.Inside.Matching.{no_fields, reading, row_from, taken}
use Rattle.templates.specs.Inside.Reading.{with_register, set_as, field_as}
use Rattle.templates.specs.Templates.{templates, template_at, piece_of, register_of}
use Rattle.templates.specs.declared.Fields.{Fields}
use Rattle.templates.specs.declared.reader.Reading.{Reading}
use Rattle.templates.proofs.Decimals.{lt_or_ge}
use Rattle.templates.proofs.OwnTemplate.{own_row}
use Rattle.templates.proofs.Reading.{Fit}
use Rattle.templates.proofs.Rows.{true_not, both}
use Rattle.listing.specs.Inside.Method.{form_at, encoded_read, read_form, read_row, read_by_method}
use Rattle.listing.specs.Lines.{tag_store_row, row_of, fields_of, line_of}
use Rattle.listing.specs.Reading.{same_text, is_line_of, read_below, read_of}
use Rattle.listing.specs.declared.ReadError.{ReadError}
use Rattle.listing.specs.declared.ReadError.TheVariants.{BadLine}
use Rattle.listing.proofs.Lengths.{line_short, row_small}

-- the form of the row and the fields that a line's template takes over is the form

abbrev again : ℕ → Fields → Form
again row g = form_at row (taken (template_at row) g no_fields)

ldg_again : (t n a : ℕ) (b : Bool) → eqb a 0 ≡ b → again (6 + cond b 0 1) (fields_of (Ldg t n a)) ≡ Ldg t n a
unfolding form_at taken set_as field_as with_register register_of template_at templates piece_of
ldg_again t n a true e = ap (Ldg t n) (sym (eqb-true a 0 e))
ldg_again t n a false e = refl

store_again : (op : TagStoreOp) (t n a : ℕ) (b : Bool) → eqb a 0 ≡ b
    → again (tag_store_row op + (2 + cond b 0 1)) (fields_of (TagStore op Offset t n a)) ≡ TagStore op Offset t n a
unfolding form_at taken set_as field_as with_register register_of template_at templates piece_of
store_again Stg t n a true e = ap (TagStore Stg Offset t n) (sym (eqb-true a 0 e))
store_again Stg t n a false e = refl
store_again Stzg t n a true e = ap (TagStore Stzg Offset t n) (sym (eqb-true a 0 e))
store_again Stzg t n a false e = refl
store_again St2g t n a true e = ap (TagStore St2g Offset t n) (sym (eqb-true a 0 e))
store_again St2g t n a false e = refl
store_again Stz2g t n a true e = ap (TagStore Stz2g Offset t n) (sym (eqb-true a 0 e))
store_again Stz2g t n a false e = refl

pair_again : (t t2 n a : ℕ) (b : Bool) → eqb a 0 ≡ b → again (24 + (2 + cond b 0 1)) (fields_of (Stgp Offset t t2 n a)) ≡ Stgp Offset t t2 n a
unfolding form_at taken set_as field_as with_register register_of template_at templates piece_of
pair_again t t2 n a true e = ap (Stgp Offset t t2 n) (sym (eqb-true a 0 e))
pair_again t t2 n a false e = refl

form_again : (f : Form) → again (row_of f) (fields_of f) ≡ f
unfolding form_at taken set_as field_as with_register register_of template_at templates piece_of
form_again (AddSub Addg d n a o) = refl
form_again (AddSub Subg d n a o) = refl
form_again (TwoSource Subp d n m) = refl
form_again (TwoSource Subps d n m) = refl
form_again (TwoSource Irg d n m) = refl
form_again (TwoSource Gmi d n m) = refl
form_again (Ldg t n a) = ldg_again t n a (eqb a 0) refl
form_again (TagStore Stg Post t n a) = refl
form_again (TagStore Stzg Post t n a) = refl
form_again (TagStore St2g Post t n a) = refl
form_again (TagStore Stz2g Post t n a) = refl
form_again (TagStore Stg Pre t n a) = refl
form_again (TagStore Stzg Pre t n a) = refl
form_again (TagStore St2g Pre t n a) = refl
form_again (TagStore Stz2g Pre t n a) = refl
form_again (TagStore op Offset t n a) = store_again op t n a (eqb a 0) refl
form_again (Stgp Post t t2 n a) = refl
form_again (Stgp Pre t t2 n a) = refl
form_again (Stgp Offset t t2 n a) = pair_again t t2 n a (eqb a 0) refl

-- the fields of a form that fits can be said

narrow : (low high a : ℕ) → high < 2 ^ 64 → amount_in low high a ≡ true → a < 2 ^ 64
narrow low high a h e =
    let k = ((and-eq-true_iff (eqb (a % 16) 0) (leb a high || (ltb a (2 ^ 64) && leb (2 ^ 64 - low) a))).0 e).1 in
    ⊎_elim (λ small. small) (λ large. absurd (true_not (sym (simp (lt-leb a high (omega arith), le-ltb a (2 ^ 64) large) at k)))) (lt_or_ge a (2 ^ 64))

fits : (f : Form) → fields_fit f ≡ true → Fit (fields_of f)
fits (AddSub op d n a o) h =
    let b = three_fields d n o 15 (amount_in 0 1008 a) h in
    record { first = omega arith; second = omega arith; third = omega arith; amount = narrow 0 1008 a (omega arith) b.3; offset = omega arith }
fits (TwoSource op d n m) h =
    let b = two_registers d n (register m) h in
    record { first = omega arith; second = omega arith; third = omega (arith, leb-true m 31 b.2); amount = omega arith; offset = omega arith }
fits (Ldg t n a) h =
    let b = two_registers t n (amount_in 4096 4080 a) h in
    record { first = omega arith; second = omega arith; third = omega arith; amount = narrow 4096 4080 a (omega arith) b.2; offset = omega arith }
fits (TagStore op mode t n a) h =
    let b = two_registers t n (amount_in 4096 4080 a) h in
    record { first = omega arith; second = omega arith; third = omega arith; amount = narrow 4096 4080 a (omega arith) b.2; offset = omega arith }
fits (Stgp mode t t2 n a) h =
    let b = three_fields t t2 n 31 (amount_in 1024 1008 a) h in
    record { first = omega arith; second = omega arith; third = omega arith; amount = narrow 1024 1008 a (omega arith) b.3; offset = omega arith }

-- two texts are the same exactly if they are found so

starts_self : (s : List ℕ) → starts s s ≡ true
unfolding starts
starts_self [] = refl
starts_self (b ∷ s) = ap (λ (t : Bool). cond t (starts s s) false) (eq-eqb b b refl) ∙ starts_self s

same_self : (s : List ℕ) → same_text s s ≡ true
unfolding same_text
same_self s = rw (eq-eqb (length s) (length s) refl) (starts_self s)

starts_whole : (a b : List ℕ) → length a ≡ length b → starts a b ≡ true → a ≡ b
unfolding starts
starts_whole [] [] l e = refl
starts_whole [] (y ∷ b) l e = absurd (omega arith)
starts_whole (x ∷ a) [] l e = absurd (omega arith)
starts_whole (x ∷ a) (y ∷ b) l e =
    let k = both (eqb x y) (starts a b) e in
    λ i. eqb-true x y k.0 i ∷ starts_whole a b (omega (arith, l)) k.1 i

same_is : (a b : List ℕ) → same_text a b ≡ true → a ≡ b
unfolding same_text
same_is a b e =
    let k = (and-eq-true_iff (eqb (length a) (length b)) (starts a b)).0 e in
    starts_whole a b (eqb-true (length a) (length b) k.0) k.1

-- as `==` on slices finds it
pub same_by : (a b : List ℕ) → same_text a b ≡ bytes_eq a b
same_by a b = same_from_decides (same_text a b) (bytes_eq a b) (same_is a b, λ e. ap (same_text a) (sym e) ∙ same_self a) (bytes_eq-Decides a b)

-- the method

pub by_row : (s : List ℕ) (r : Option Reading) → row_from templates s 0 ≡ r → read_by_method s ≡ read_row s r
unfolding read_by_method
by_row s r e = ap (read_row s) e

-- a word's line is read to the word
form_read : (s : List ℕ) (f : Form) (w : ℕ) → s ≡ line_of f → encode_of f ≡ Some w → read_form s f ≡ Ok w
unfolding read_form
form_read s f w e k = rw (e, same_self (line_of f), k)

own_template : (f : Form) → Fit (fields_of f) → row_from templates (line_of f) 0 ≡ Some (reading (row_of f) (taken (template_at (row_of f)) (fields_of f) no_fields))
unfolding line_of
own_template f fit = own_row (row_of f) (fields_of f) fit (row_small f)

own_line : (f : Form) (w : ℕ) → decode_of w ≡ Some f → read_by_method (line_of f) ≡ Ok w
own_line f w e =
    by_row (line_of f) _ (own_template f (fits f (decoded_fits w f e)))
    ∙ ap (read_form (line_of f)) (form_again f) ∙ form_read (line_of f) f w refl (round_trip.reads_back w f e)

-- and what the method reads to a word is that word's line

encodes_only : (f : Form) (w : ℕ) (b : Bool) → fields_fit f ≡ b → encode_of f ≡ Some w → (decode_of w ≡ Some f) × (w < 2 ^ 32)
encodes_only f w true e k =
    let same : word_of f ≡ w = cc (round_trip.encodes f e) in
    (subst (λ (v : ℕ). decode_of v ≡ Some f) same (round_trip.decodes f e), subst (λ (v : ℕ). v < 2 ^ 32) same (round_trip.narrow f e))
encodes_only f w false e k = let z : ◌≡◌ {A = ℕ} 0 1 = cc (round_trip.refuses f e) in absurd (omega arith)

-- what a text that is read to a word says of the word
abbrev Says : List ℕ → ℕ → Type 0
Says s w = (f : Form) × (decode_of w ≡ Some f) × (s ≡ line_of f) × (w < 2 ^ 32)

form_only : (s : List ℕ) (f : Form) (w : ℕ) (b : Bool) (d : Option ℕ) → same_text (line_of f) s ≡ b → encode_of f ≡ d
    → cond b (encoded_read d) (Err BadLine) ≡ Ok w → Says s w
form_only s f w true (Some v) e k h =
    let same : v ≡ w = cc in
    let found = encodes_only f w (fields_fit f) refl (k ∙ ap Some same) in
    (f, found.0, sym (same_is (line_of f) s e), found.1)
form_only s f w true None e k h = absurd cc
form_only s f w false d e k h = absurd cc

row_only : (s : List ℕ) (r : Option Reading) (w : ℕ) → read_row s r ≡ Ok w → Says s w
unfolding read_form
row_only s (Some read) w h =
    let f = form_at read.row read.fields in
    form_only s f w (same_text (line_of f) s) (encode_of f) refl refl h
row_only s None w h = absurd cc

method_only : (s : List ℕ) (w : ℕ) → read_by_method s ≡ Ok w → Says s w
unfolding read_by_method
method_only s w h = row_only s (row_from templates s 0) w h

-- so no text that is longer than every line
pub method_long : (s : List ℕ) → 100 < length s → read_by_method s ≡ Err BadLine
method_long s h = go (read_by_method s) refl
  where
    no_line : (w : ℕ) → Says s w → ⊥
    no_line w (f, e, k, l) = absurd (omega (arith, h, line_short f, ap length k))

    go : (r : Result ℕ ReadError) → read_by_method s ≡ r → r ≡ Err BadLine
    go (Ok w) e = absurd (no_line w (method_only s w e))
    go (Err BadLine) e = refl

-- the definition: the word below n whose line the text is

line_says : (s : List ℕ) (w : ℕ) (d : Option Form) → decode_of w ≡ d
    → elim d as (λ _. Bool) [ Some f ↦ same_text (line_of f) s | None ↦ false ] ≡ true → (f : Form) × (decode_of w ≡ Some f) × (s ≡ line_of f)
line_says s w (Some f) e h = (f, e, sym (same_is (line_of f) s h))
line_says s w None e h = absurd (true_not (sym h))

is_line : (s : List ℕ) (w : ℕ) → is_line_of s w ≡ true → (f : Form) × (decode_of w ≡ Some f) × (s ≡ line_of f)
unfolding is_line_of
is_line s w h = line_says s w (decode_of w) refl h

says_line : (s : List ℕ) (w : ℕ) → Says s w → is_line_of s w ≡ true
unfolding is_line_of
says_line s w (f, e, k, h) = rw (e, is_line_of) (rw k (same_self (line_of f)))

below_only : (n : ℕ) (s : List ℕ) (w : ℕ) → read_below n s ≡ Ok w → (is_line_of s w ≡ true) × (w < n)
unfolding read_below
below_only zero s w h = absurd cc
below_only (suc n) s w h = by (is_line_of s n) refl h (λ k. below_only n s w k)
  where
    by : (b : Bool) → is_line_of s n ≡ b → cond b (Ok n) (read_below n s) ≡ Ok w → (read_below n s ≡ Ok w → (is_line_of s w ≡ true) × (w < n)) → (is_line_of s w ≡ true) × (w < suc n)
    by true e k lower = let same : n ≡ w = cc in (subst (λ (v : ℕ). is_line_of s v ≡ true) same e, omega arith)
    by false e k lower = let r = lower k in (r.0, omega (arith, r.1))

below_none : (n : ℕ) (s : List ℕ) (w : ℕ) → read_below n s ≡ Err BadLine → w < n → is_line_of s w ≡ true → ⊥
unfolding read_below
below_none zero s w h k e = absurd (not-suc-le-zero k)
below_none (suc n) s w h k e = by (is_line_of s n) refl h (λ g l. below_none n s w g l e)
  where
    by : (b : Bool) → is_line_of s n ≡ b → cond b (Ok n) (read_below n s) ≡ Err BadLine → (read_below n s ≡ Err BadLine → w < n → ⊥) → ⊥
    by true f g lower = cc
    by false f g lower =
        ⊎_elim (λ l. lower g l)
        (λ l. let same : w ≡ n = omega arith in true_not (sym e ∙ ap (is_line_of s) same ∙ f))
        (lt_or_ge w n)

of_only : (s : List ℕ) (w : ℕ) → read_of s ≡ Ok w → Says s w
unfolding read_of
of_only s w h =
    let r = below_only (2 ^ 32) s w h in
    let l = is_line s w r.0 in
    (l.0, l.1, l.2, r.1)

of_none : (s : List ℕ) (w : ℕ) → read_of s ≡ Err BadLine → Says s w → ⊥
unfolding read_of
of_none s w h says = below_none (2 ^ 32) s w h says.3 (says_line s w says)

own_says : (s : List ℕ) (w : ℕ) → Says s w → read_by_method s ≡ Ok w
own_says s w (f, e, k, h) = ap read_by_method k ∙ own_line f w e

agree : (s : List ℕ) (r m : Result ℕ ReadError) → read_of s ≡ r → read_by_method s ≡ m → m ≡ r
agree s (Ok w) m e k = sym k ∙ own_says s w (of_only s w e)
agree s (Err BadLine) (Ok w) e k = absurd (of_none s w e (method_only s w k))
agree s (Err BadLine) (Err BadLine) e k = refl

-- the method gives what the definition says
pub by_method : (s : List ℕ) → read_by_method s ≡ read_of s
by_method s = agree s (read_of s) (read_by_method s) refl refl

-- what a text is read to says so, and nothing else is read

pub reads_own : (w : ℕ) (f : Form) → w < 2 ^ 32 → decode_of w ≡ Some f → read_of (line_of f) ≡ Ok w
reads_own w f h e = sym (by_method (line_of f)) ∙ own_line f w e

pub reads_only : (s : List ℕ) (w : ℕ) → read_of s ≡ Ok w → Says s w
reads_only s w h = of_only s w h
