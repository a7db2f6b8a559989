-- A listing is assembled to the session that was listed. Assumes nothing.
use Rattle.std.proofs.Common.{Ok, Err}
use Prim.Native.Nat.{ℕ, suc, ◌+◌, ◌≤◌, zero-le}
use mathlib.Core.Bool.{Bool, true, false, cond}
use mathlib.Core.List.{List, [], ◌∷◌, ◌++◌, append_assoc}
use mathlib.Core.Path.{◌≡◌, refl, ap, sym, ◌∙◌}
use native.Mathlib.Nat.{add-zero, zero-add}
use native.Mathlib.Omega.{arith}
use borrow.Author.Tests.{le-leb, le-ltb, ltb-false, ltb-true}
use lib.Dec.{leb, ltb}
use lib.ListN.{get_or-eq_default, length, get_or, take, drop, length-append, length-drop, length-take, take-append-drop}
use lib.Seq.{get_or-drop, get_or-take, length-take-le}
use Rattle.isa.specs.Decoding.{decode_of}
use Rattle.session_lines.specs.Laws.{OnlyGoodIsRead}
use Rattle.session_lines.specs.LineFormats.{GoodNumbers, InRange, format_of, line_for, lines_from}
use Rattle.session_lines.specs.Parsing.{Parsed, good as good_session, bad, parsed}
use Rattle.session_lines.proofs.Lengths.{front_long, session_room}
use Rattle.session_lines.proofs.LineFormats.{word_most}
use Rattle.session_lines.proofs.OnlyGoodSessions.{only_good_is_read}
use Rattle.listing.specs.Lines.{line_of}
use Rattle.listing.proofs.OneLine.{line_once}
use Rattle.assembly.specs.Assembling.{assembled, before, numbers_from, session_of}
use Rattle.assembly.specs.Laws.{DefinedIsListed, ListingIsAssembled}
use Rattle.assembly.specs.Listing.{defined_front, form_line, listed, listed_numbers, listed_session, listing_of}
use Rattle.assembly.specs.SourceLines.{line_start, lines_of}
use Rattle.assembly.specs.declared.Refusal.{Refusal}
use Rattle.assembly.specs.declared.Refusal.TheVariants.{TooLarge, Undefined}
use Rattle.assembly.proofs.Answers.{assembled_small}
use Rattle.assembly.proofs.Listings.{all_defined, front_within, listing_short}
use Rattle.assembly.proofs.PutLines.{first_of, front_once, front_says, word_says}
use Rattle.assembly.proofs.Reading.{line_number, lines_done}

-- the numbers behind the first
tail_range : (i x : ℕ) (v : List ℕ) → InRange i (x ∷ v) → InRange (i + 1) v
tail_range i x v range j =
    let next : i + 1 + j ≡ i + suc j = omega arith in
    rw next (range (suc j))

-- the nine lines, and whatever is read behind them
front_read : (number i at : ℕ) (front rest ws : List ℕ) → i + length front ≡ 9 → InRange i front
    → ((number at : ℕ) → numbers_from number 9 at (lines_of rest) ≡ Ok ws)
    → numbers_from number i at (lines_of (lines_from i front ++ rest)) ≡ Ok (front ++ ws)
unfolding lines_from
front_read number i at [] rest ws nine range more = let all : i ≡ 9 = omega arith in rw all (more number at)
front_read number i at (x ∷ front) rest ws nine range more =
    let line = line_for (format_of i) x in
    let small = rw add-zero at (range 0) in
    ap (λ (l : List ℕ). numbers_from number i at (lines_of l)) (append_assoc line (lines_from (i + 1) front) rest)
    ∙ ap (numbers_from number i at) (first_of line (lines_from (i + 1) front ++ rest) (front_once i x))
    ∙ line_number number i at line (lines_of (lines_from (i + 1) front ++ rest)) x (front_says i x (omega arith) small)
    ∙ ap (before x) (front_read (number + 1) (i + 1) (at + length line) front rest ws (omega arith) (tail_range i x front range) more)

words_read : (number i at : ℕ) (ws : List ℕ) → 9 ≤ i → i + length ws ≤ 265 → InRange i ws → defined_front ws ≡ length ws
    → numbers_from number i at (lines_of (listing_of ws)) ≡ Ok ws
unfolding listing_of lines_of
words_read number i at [] nine most range all = lines_done number i at nine
words_read number i at (w ∷ ws) nine most range all =
    let first = all_defined w ws all in
    let line = line_of first.form in
    let same : form_line (decode_of w) ≡ line = rw first.is in
    let small = word_most i w nine (rw add-zero at (range 0)) in
    ap (λ (l : List ℕ). numbers_from number i at (lines_of (l ++ listing_of ws))) same
    ∙ ap (numbers_from number i at) (first_of line (listing_of ws) (line_once first.form))
    ∙ line_number number i at line (lines_of (listing_of ws)) w (word_says i w first.form nine (omega arith) small first.is)
    ∙ ap (before w) (words_read (number + 1) (i + 1) (at + length line) ws (omega arith) (omega arith) (tail_range i w ws range) first.rest)

-- the numbers of a good session, in two parts

take_by : (v : List ℕ) → InRange 0 v → (j : ℕ) (t : Bool) → ltb j 9 ≡ t → get_or (take 9 v) j 0 ≤ (format_of (0 + j)).most
take_by v range j true e = rw (get_or-take 9 v j 0 (ltb-true j 9 e)) (range j)
take_by v range j false e =
    let short : length (take 9 v) ≤ j = omega (arith, length-take 9 v, ltb-false j 9 e) in
    rw (get_or-eq_default (take 9 v) 0 short) zero-le

take_range : (v : List ℕ) → InRange 0 v → InRange 0 (take 9 v)
take_range v range j = take_by v range j (ltb j 9) refl

drop_range : (v : List ℕ) → InRange 0 v → InRange 9 (drop 9 v)
drop_range v range j = rw (get_or-drop 9 v j 0) (rw zero-add at (range (9 + j)))

-- the listing of a session's numbers
abbrev listing : List ℕ → List ℕ
listing v = lines_from 0 (take 9 v) ++ listing_of (drop 9 v)

module _ (v : List ℕ) (numbers : GoodNumbers v) where
  nine : length (take 9 v) ≡ 9
  nine = length-take-le 9 v numbers.nine

  few : length (drop 9 v) ≤ 256
  few = omega (arith, length-drop 9 v, numbers.most)

  listing_room : length (listing v) ≤ 1048576
  listing_room = rw length-append (omega (arith, front_long (take 9 v) nine, listing_short (drop 9 v), few))

  pub listing_read : defined_front (drop 9 v) ≡ length (drop 9 v) → assembled (listing v) ≡ Ok v
  listing_read all =
      assembled_small (listing v) listing_room
      ∙ front_read 1 0 0 (take 9 v) (listing_of (drop 9 v)) (drop 9 v) (rw zero-add nine) (take_range v numbers.range)
      (λ number at. words_read number 9 at (drop 9 v) (omega arith) (omega (arith, few)) (drop_range v numbers.range) all)
      ∙ ap Ok (take-append-drop 9 v)

-- what was read is a good session, and short
module _ (s v : List ℕ) (e : parsed s ≡ good_session v) where
  pub good_numbers : GoodNumbers v
  unfolding OnlyGoodIsRead
  good_numbers = (only_good_is_read s v e).0

  pub its_lines : s ≡ lines_from 0 v
  unfolding OnlyGoodIsRead
  its_lines = (only_good_is_read s v e).1

  session_short : length s ≤ 1048576
  session_short = omega (arith, ap length its_lines, session_room v good_numbers.most)

pub defined_is_listed : DefinedIsListed
unfolding DefinedIsListed listed listed_numbers
defined_is_listed s v e all =
    rw (le-leb (length s) 1048576 (session_short s v e), e, le-ltb (defined_front (drop 9 v)) (length (drop 9 v)) (omega arith))

-- by how the listing of a session goes

not_refused : (why : Refusal) (t : List ℕ) → Err why ≡ Ok t → ⊥
not_refused why t e = absurd cc

module _ (s t : List ℕ) where
  by_defined : (v : List ℕ) → parsed s ≡ good_session v → (b : Bool) → ltb (defined_front (drop 9 v)) (length (drop 9 v)) ≡ b
      → cond b (Err (Undefined (10 + defined_front (drop 9 v)) (line_start s (10 + defined_front (drop 9 v))))) (Ok (listing v)) ≡ Ok t
      → session_of (assembled t) ≡ Ok s
  by_defined v p true q e = absurd (not_refused _ t e)
  by_defined v p false q e =
      let all : defined_front (drop 9 v) ≡ length (drop 9 v) = omega (arith, ltb-false (defined_front (drop 9 v)) (length (drop 9 v)) q, front_within (drop 9 v)) in
      let same : listing v ≡ t = cc in
      ap session_of (ap assembled (sym same) ∙ listing_read v (good_numbers s v p) all) ∙ ap Ok (sym (its_lines s v p))

  by_session : (p : Parsed) → parsed s ≡ p → listed_session s p ≡ Ok t → session_of (assembled t) ≡ Ok s
  unfolding listed_numbers
  by_session (good_session v) q e = by_defined v q (ltb (defined_front (drop 9 v)) (length (drop 9 v))) refl e
  by_session (bad number) q e = absurd (not_refused _ t e)

  by_size : (b : Bool) → leb (length s) 1048576 ≡ b → cond b (listed_session s (parsed s)) (Err TooLarge) ≡ Ok t → session_of (assembled t) ≡ Ok s
  by_size true q e = by_session (parsed s) refl e
  by_size false q e = absurd (not_refused _ t e)

pub listing_is_assembled : ListingIsAssembled
unfolding ListingIsAssembled listed
listing_is_assembled s t e = by_size s t (leb (length s) 1048576) refl e
