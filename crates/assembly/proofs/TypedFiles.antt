-- What is assembled are the numbers of a good session, which is listed as it was typed. Assumes nothing.
use Rattle.std.proofs.Common.{Option, Some, None, Result, Ok, Err}
use Prim.Native.Nat.{ℕ, zero, suc, ◌+◌, ◌-◌, ◌^◌, ◌≤◌, ◌<◌, zero-le}
use mathlib.Core.Bool.{Bool, true, false, cond}
use mathlib.Core.List.{List, [], ◌∷◌, ◌++◌, append_assoc, append-nil}
use mathlib.Core.Path.{◌≡◌, refl, ap, sym, ◌∙◌}
use native.Mathlib.Nat.{add-zero}
use native.Mathlib.Omega.{arith}
use borrow.Author.Tests.{eqb-true, leb-true, ltb-false, ltb-true}
use lib.Dec.{eqb, leb, ltb}
use lib.ListN.{length, take, drop, drop_of_length-le}
use Rattle.isa.specs.Decoding.{decode_of}
use Rattle.isa.specs.declared.Form.{Form}
use Rattle.text.specs.Lines.{is_line}
use Rattle.text.specs.declared.Line.{Line}
use Rattle.text.proofs.ExactLines.{line_exact}
use Rattle.text.proofs.Framing.{line_says}
use Rattle.session_lines.specs.Laws.{GoodIsRead}
use Rattle.session_lines.specs.LineFormats.{InRange, format_of, line_for, lines_from}
use Rattle.session_lines.specs.Parsing.{line_of as line_as, parsed, good as good_session}
use Rattle.session_lines.proofs.GoodSessions.{good_is_read}
use Rattle.session_lines.proofs.LineFormats.{word_format_lem}
use Rattle.listing.specs.Lines.{line_of}
use Rattle.listing.specs.Reading.{read_of}
use Rattle.listing.specs.declared.ReadError.{ReadError}
use Rattle.listing.proofs.RoundTrip.{round_trip}
use Rattle.assembly.specs.Answers.{Outcome}
use Rattle.assembly.specs.Assembling.{assembled, before, content_at, front_content, numbers_from, session_of, word_content}
use Rattle.assembly.specs.Laws.{AssembledIsGood, AssembledIsListed, DefinedIsListed, counted}
use Rattle.assembly.specs.Listing.{defined_front, form_line, listed, listing_of}
use Rattle.assembly.specs.SourceLines.{lines_of, passed_over}
use Rattle.assembly.specs.declared.reader.Content.{Content}
use Rattle.assembly.specs.declared.reader.Content.TheVariants.{Passed, Number, Unexpected}
use Rattle.assembly.specs.declared.Refusal.{Refusal}
use Rattle.assembly.specs.declared.Refusal.TheVariants.{TooLarge, Wrong}
use Rattle.assembly.proofs.AssembledListings.{defined_is_listed}
use Rattle.assembly.proofs.Contents.{content_extra, content_front, content_passed, content_word, number_expected}
use Rattle.assembly.proofs.Listings.{front_defined}
use Rattle.assembly.proofs.Reading.{line_number, line_passed, line_unexpected}

-- what a line that says a number is: one of the nine, or the line of a word
data Said (i : ℕ) (line : List ℕ) (v : ℕ) : Type 0 where
  front : i < 9 → line ≡ line_for (format_of i) v → v ≤ (format_of i).most → Said i line v
  word : (f : Form) → 9 ≤ i → i < 265 → decode_of v ≡ Some f → line ≡ line_of f → v < 2 ^ 32 → Said i line v

module _ (i : ℕ) (line : List ℕ) (v : ℕ) where
  no_number : {A : Type 0} (c : Content) → c ≡ Unexpected → c ≡ Number v → A
  no_number c e q = absurd cc

  front_line : (x next : ℕ) → line_as (format_of i) line 0 ≡ is_line x next → (t : Bool) → eqb next (length line) ≡ t
      → cond t (Number x) Unexpected ≡ Number v → i < 9 → Said i line v
  front_line x next q true e n h =
      let same : x ≡ v = cc in
      let key = (format_of i).key in
      let digits = (format_of i).digits in
      let end : next ≡ length line = eqb-true next (length line) e in
      let all : length line ≤ next = omega arith in
      let none : drop next line ≡ [] = drop_of_length-le line all in
      let exact : line ≡ line_for (format_of i) x
      = line_exact key digits (format_of i).most line 0 x next q ∙ ap (λ (l : List ℕ). line_for (format_of i) x ++ l) none ∙ append-nil (line_for (format_of i) x) in
      let small = (line_says key digits (format_of i).most line 0 x next q).0 in
      front h (exact ∙ ap (line_for (format_of i)) same) (omega arith)
  front_line x next q false e n h = absurd cc

  front_by : (l : Option Line) → line_as (format_of i) line 0 ≡ l → front_content (length line) l ≡ Number v → i < 9 → Said i line v
  front_by (Some found) q n h = front_line found.value found.next q (eqb found.next (length line)) refl n h
  front_by None q n h = no_number Unexpected refl n

  word_by : (r : Result ℕ ReadError) → read_of line ≡ r → word_content r ≡ Number v → 9 ≤ i → i < 265 → Said i line v
  word_by (Ok w) q n h k =
      let same : w ≡ v = cc in
      let only = round_trip.only_lines line w q in
      word only.0 h k (ap decode_of (sym same) ∙ only.1) only.2 (omega (arith, only.3))
  word_by (Err why) q n h k = no_number Unexpected refl n

  extra_by : passed_over line ≡ false → content_at i line ≡ Number v → 9 ≤ i → (t : Bool) → ltb i 265 ≡ t → Said i line v
  extra_by on e h true q = word_by (read_of line) refl (sym (content_word i line on h (ltb-true i 265 q)) ∙ e) h (ltb-true i 265 q)
  extra_by on e h false q = no_number (content_at i line) (content_extra i line on (ltb-false i 265 q)) e

  nine_by : passed_over line ≡ false → content_at i line ≡ Number v → (t : Bool) → ltb i 9 ≡ t → Said i line v
  nine_by on e true q =
      let h : i < 9 = ltb-true i 9 q in
      front_by (line_as (format_of i) line 0) refl (sym (content_front i line on h) ∙ e) h
  nine_by on e false q = extra_by on e (ltb-false i 9 q) (ltb i 265) refl

  said : passed_over line ≡ false → content_at i line ≡ Number v → Said i line v
  said on e = nine_by on e (ltb i 9) refl

  -- a line that counts is not passed over

  end_counts : (x : ℕ) (t : Bool) → cond t (Number x) Unexpected ≡ Passed → ⊥
  end_counts x true e = absurd cc
  end_counts x false e = absurd cc

  front_counts : (l : Option Line) → front_content (length line) l ≡ Passed → ⊥
  front_counts (Some found) e = end_counts found.value (eqb found.next (length line)) e
  front_counts None e = absurd cc

  word_counts : (r : Result ℕ ReadError) → word_content r ≡ Passed → ⊥
  word_counts (Ok w) e = absurd cc
  word_counts (Err why) e = absurd cc

  extra_counts : passed_over line ≡ false → content_at i line ≡ Passed → 9 ≤ i → (t : Bool) → ltb i 265 ≡ t → ⊥
  extra_counts on e h true q = word_counts (read_of line) (sym (content_word i line on h (ltb-true i 265 q)) ∙ e)
  extra_counts on e h false q =
      let no : Unexpected ≡ Passed = sym (content_extra i line on (ltb-false i 265 q)) ∙ e in
      absurd cc

  line_counts : passed_over line ≡ false → content_at i line ≡ Passed → (t : Bool) → ltb i 9 ≡ t → ⊥
  line_counts on e true q = front_counts (line_as (format_of i) line 0) (sym (content_front i line on (ltb-true i 9 q)) ∙ e)
  line_counts on e false q = extra_counts on e (ltb-false i 9 q) (ltb i 265) refl

-- the numbers v were read from lines, where i numbers had been read before
record Typed (i : ℕ) (lines : List (List ℕ)) (v : List ℕ) : Type 0 where
  enough : 9 ≤ i + length v
  most : i + length v ≤ 265
  range : InRange i v
  defined : defined_front (drop (9 - i) v) ≡ length (drop (9 - i) v)
  text : counted lines ≡ lines_from i (take (9 - i) v) ++ listing_of (drop (9 - i) v)

abbrev IfTyped : ℕ → List (List ℕ) → Outcome → Type 0
IfTyped i lines o = (v : List ℕ) → o ≡ Ok v → Typed i lines v

not_typed : (i : ℕ) (lines : List (List ℕ)) (why : Refusal) → IfTyped i lines (Err why)
not_typed i lines why v e = absurd cc

-- all lines are read
typed_none : (i : ℕ) → 9 ≤ i → i ≤ 265 → Typed i [] []
unfolding counted lines_from listing_of defined_front
typed_none i h k =
    let left : 9 - i ≡ 0 = omega arith in
    record {
      enough = omega arith;
      most = omega arith;
      range = λ j. zero-le;
      defined = rw left;
      text = rw left;
    }

typed_end : (number i at : ℕ) → i ≤ 265 → (t : Bool) → leb 9 i ≡ t → IfTyped i [] (cond t (Ok []) (Err (Wrong number i at)))
typed_end number i at k true q v e =
    let none : [] ≡ v = cc in
    rw (← none) (typed_none i (leb-true 9 i q) k)
typed_end number i at k false q v e = not_typed i [] _ v e

in_range : (i x : ℕ) (v : List ℕ) → x ≤ (format_of i).most → InRange (i + 1) v → InRange i (x ∷ v)
in_range i x v small rest zero = rw add-zero small
in_range i x v small rest (suc j) =
    let same : i + suc j ≡ i + 1 + j = omega arith in
    rw same (rest j)

word_small : (i w : ℕ) → 9 ≤ i → w < 2 ^ 32 → w ≤ (format_of i).most
word_small i w h small = rw (word_format_lem i h) (omega arith)

-- a line more
typed_more : (i : ℕ) (line : List ℕ) (lines : List (List ℕ)) (x : ℕ) (v : List ℕ) → passed_over line ≡ false → Said i line x → Typed (i + 1) lines v
    → Typed i (line ∷ lines) (x ∷ v)
unfolding counted lines_from listing_of
typed_more i line lines x v on (front h exact small) rest =
    let left : 9 - i ≡ suc (9 - (i + 1)) = omega arith in
    record {
      enough = omega (arith, rest.enough);
      most = omega (arith, rest.most);
      range = in_range i x v small rest.range;
      defined = rw left rest.defined;
      text = rw (on, left)
          (ap (λ (l : List ℕ). l ++ counted lines) exact
          ∙ ap (λ (l : List ℕ). line_for (format_of i) x ++ l) rest.text
          ∙ sym (append_assoc (line_for (format_of i) x) (lines_from (i + 1) (take (9 - (i + 1)) v)) (listing_of (drop (9 - (i + 1)) v))));
    }
typed_more i line lines x v on (word f h k is exact small) rest =
    let left : 9 - i ≡ 0 = omega arith in
    let none : 9 - (i + 1) ≡ 0 = omega arith in
    record {
      enough = omega (arith, rest.enough);
      most = omega (arith, rest.most);
      range = in_range i x v (word_small i x h small) rest.range;
      defined = rw left (front_defined x v f is (rw none at rest.defined));
      text = rw (on, left)
          (ap (λ (l : List ℕ). l ++ counted lines) exact
          ∙ ap (λ (l : List ℕ). line_of f ++ l) (rw none at rest.text)
          ∙ ap (λ (l : List ℕ). l ++ listing_of v) (sym (ap form_line is)));
    }

typed_before : (i : ℕ) (line : List ℕ) (lines : List (List ℕ)) (x : ℕ) → passed_over line ≡ false → Said i line x → (o : Outcome) → IfTyped (i + 1) lines o
    → IfTyped i (line ∷ lines) (before x o)
typed_before i line lines x on says (Ok w) rest v e = let q : x ∷ w ≡ v = cc in rw (← q) (typed_more i line lines x w on says (rest w refl))
typed_before i line lines x on says (Err why) rest v e = not_typed i (line ∷ lines) why v e

-- a line that is passed over
typed_passed : (i : ℕ) (line : List ℕ) (lines : List (List ℕ)) (v : List ℕ) → passed_over line ≡ true → Typed i lines v → Typed i (line ∷ lines) v
unfolding counted
typed_passed i line lines v on rest =
    record { enough = rest.enough; most = rest.most; range = rest.range; defined = rest.defined; text = rw on rest.text }

module _ (number i at : ℕ) (line : List ℕ) (lines : List (List ℕ)) (k : i ≤ 265)
    (rest : (number i at : ℕ) → i ≤ 265 → IfTyped i lines (numbers_from number i at lines)) where
  typed_content : passed_over line ≡ false → (c : Content) → content_at i line ≡ c → IfTyped i (line ∷ lines) (numbers_from number i at (line ∷ lines))
  typed_content on Passed q = absurd (line_counts i line 0 on q (ltb i 9) refl)
  typed_content on (Number x) q =
      rw (line_number number i at line lines x q)
      (typed_before i line lines x on (said i line x on q) (numbers_from (number + 1) (i + 1) (at + length line) lines)
      (rest (number + 1) (i + 1) (at + length line) (omega (arith, number_expected i line x q))))
  typed_content on Unexpected q = rw (line_unexpected number i at line lines q) (not_typed i (line ∷ lines) _)

  typed_line : (t : Bool) → passed_over line ≡ t → IfTyped i (line ∷ lines) (numbers_from number i at (line ∷ lines))
  typed_line true q v e =
      typed_passed i line lines v q
      (rest (number + 1) i (at + length line) k v (sym (line_passed number i at line lines (content_passed i line q)) ∙ e))
  typed_line false q v e = typed_content q (content_at i line) refl v e

typed_from : (number i at : ℕ) (lines : List (List ℕ)) → i ≤ 265 → IfTyped i lines (numbers_from number i at lines)
unfolding numbers_from
typed_from number i at [] k = typed_end number i at k (leb 9 i) refl
typed_from number i at (line ∷ lines) k =
    typed_line number i at line lines k (λ number i at k. typed_from number i at lines k) (passed_over line) refl

typed_by : (t v : List ℕ) (b : Bool) → cond b (numbers_from 1 0 0 (lines_of t)) (Err TooLarge) ≡ Ok v → Typed 0 (lines_of t) v
typed_by t v true e = typed_from 1 0 0 (lines_of t) (omega arith) v e
typed_by t v false e = not_typed 0 (lines_of t) TooLarge v e

typed : (t v : List ℕ) → assembled t ≡ Ok v → Typed 0 (lines_of t) v
unfolding assembled
typed t v e = typed_by t v (leb (length t) 1048576) e

pub assembled_is_good : AssembledIsGood
unfolding AssembledIsGood
assembled_is_good t v e =
    let all = typed t v e in
    record { nine = omega (arith, all.enough); most = omega (arith, all.most); range = all.range }

listed_by : (t s : List ℕ) (o : Outcome) → assembled t ≡ o → session_of o ≡ Ok s → listed s ≡ Ok (counted (lines_of t))
unfolding AssembledIsGood DefinedIsListed GoodIsRead
listed_by t s (Ok v) q e =
    let lines : lines_from 0 v ≡ s = cc in
    let read : parsed s ≡ good_session v = ap parsed (sym lines) ∙ good_is_read v (assembled_is_good t v q) in
    let all = typed t v q in
    defined_is_listed s v read all.defined ∙ ap Ok (sym all.text)
listed_by t s (Err why) q e = absurd cc

pub assembled_is_listed : AssembledIsListed
unfolding AssembledIsListed
assembled_is_listed t s e = listed_by t s (assembled t) refl e
