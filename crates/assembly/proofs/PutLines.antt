-- The lines that are put: each is one line, counts, and says its number. Assumes nothing.
use Rattle.std.proofs.Common.{Some}
use Prim.Native.Nat.{ℕ, zero, suc, ◌+◌, ◌^◌, ◌≤◌, ◌<◌}
use mathlib.Core.Bool.{Bool, true, false, cond, ◌&&◌, and-eq-true_iff, and-false}
use mathlib.Core.List.{List, [], ◌∷◌, ◌++◌, append-nil}
use mathlib.Core.Path.{◌≡◌, refl, ap, sym, ◌∙◌}
use native.Mathlib.Nat.{zero-add}
use native.Mathlib.Omega.{arith}
use borrow.Author.Tests.{eq-eqb, leb-true, ne_eqb}
use lib.Dec.{eqb, leb}
use lib.ListN.{get_or, length}
use Rattle.isa.specs.Decoding.{decode_of}
use Rattle.isa.specs.declared.Form.{Form}
use Rattle.text.specs.Lines.{is_line, line_text, starts}
use Rattle.text.proofs.OneLine.{is_empty, line_once as text-once, no_feed, one_line}
use Rattle.text.proofs.Round.{line_back}
use Rattle.session_lines.specs.LineFormats.{LineFormat, format_of, front_formats, line_for, word_format}
use Rattle.session_lines.specs.Parsing.{line_of as line_as}
use Rattle.session_lines.proofs.LineFormats.{length_for, wide}
use Rattle.listing.specs.Lines.{line_of}
use Rattle.listing.proofs.OneLine.{line_letter}
use Rattle.listing.proofs.RoundTrip.{round_trip}
use Rattle.assembly.specs.Assembling.{content_at, front_content, word_content}
use Rattle.assembly.specs.SourceLines.{in_front, is_ended, lines_of, passed_over}
use Rattle.assembly.specs.declared.reader.Content.TheVariants.{Number}
use Rattle.assembly.proofs.Contents.{content_front, content_word}

-- one line is the first of a text that begins with it

first_by : (b : ℕ) (s rest : List ℕ) (t : Bool) → eqb b 10 ≡ t → cond t (is_empty s) (one_line s) ≡ true
    → (one_line s ≡ true → lines_of (s ++ rest) ≡ s ∷ lines_of rest)
    → cond t ((b ∷ []) ∷ lines_of (s ++ rest)) (in_front b (lines_of (s ++ rest))) ≡ (b ∷ s) ∷ lines_of rest
first_by b [] rest true q e more = refl
first_by b (x ∷ s) rest true q e more = absurd cc
first_by b s rest false q e more = ap (in_front b) (more e)

pub first_of : (line rest : List ℕ) → one_line line ≡ true → lines_of (line ++ rest) ≡ line ∷ lines_of rest
unfolding lines_of
first_of [] rest e = absurd cc
first_of (b ∷ s) rest e = first_by b s rest (eqb b 10) refl e (first_of s rest)

-- a line that begins with a letter counts

starts_not : (k : ℕ) (key line : List ℕ) → (k ≡ get_or line 0 0 → ⊥) → starts (k ∷ key) line ≡ false
unfolding starts
starts_not k key [] h = refl
starts_not k key (b ∷ line) h = rw (ne_eqb k b h)

pub letter_counts : (line : List ℕ) → 97 ≤ get_or line 0 0 → passed_over line ≡ false
unfolding passed_over
letter_counts line h =
    rw (starts_not 10 [] line (λ e. absurd (omega arith)), starts_not 47 (47 ∷ []) line (λ e. absurd (omega arith)))
    (and-false (is_ended line))

-- the keys of a session's lines: a test of the whole table, carried to each format

abbrev plain_key : LineFormat → Bool
plain_key format = no_feed format.key && leb 97 (get_or format.key 0 0)

abbrev all_plain : List LineFormat → Bool
all_plain [] = true
all_plain (format ∷ formats) = plain_key format && all_plain formats

each_plain : (formats : List LineFormat) (i : ℕ) → all_plain formats ≡ true → plain_key (get_or formats i word_format) ≡ true
each_plain [] i h = refl
each_plain (format ∷ formats) zero h = ((and-eq-true_iff (plain_key format) (all_plain formats)).0 h).0
each_plain (format ∷ formats) (suc i) h = each_plain formats i ((and-eq-true_iff (plain_key format) (all_plain formats)).0 h).1

plain : (i : ℕ) → plain_key (format_of i) ≡ true
unfolding format_of front_formats
plain i = each_plain front_formats i refl

first_byte : (key rest : List ℕ) → 97 ≤ get_or key 0 0 → 97 ≤ get_or (key ++ rest) 0 0
first_byte [] rest h = absurd (omega arith)
first_byte (k ∷ key) rest h = h

module _ (i v : ℕ) where
  key_says : (no_feed (format_of i).key ≡ true) × (leb 97 (get_or (format_of i).key 0 0) ≡ true)
  key_says = (and-eq-true_iff (no_feed (format_of i).key) (leb 97 (get_or (format_of i).key 0 0))).0 (plain i)

  pub front_once : one_line (line_for (format_of i) v) ≡ true
  front_once = text-once (format_of i).key (format_of i).digits v key_says.0

  front_counts : passed_over (line_for (format_of i) v) ≡ false
  unfolding line_text
  front_counts = letter_counts _ (first_byte (format_of i).key _ (leb-true 97 (get_or (format_of i).key 0 0) key_says.1))

  pub front_says : i < 9 → v ≤ (format_of i).most → content_at i (line_for (format_of i) v) ≡ Number v
  front_says h small =
      let key = (format_of i).key in
      let digits = (format_of i).digits in
      let line = line_for (format_of i) v in
      let back : line_as (format_of i) (line ++ []) 0 ≡ is_line v (0 + (length key + digits + 1))
      = line_back key digits (format_of i).most v [] [] (omega (arith, wide i)) small in
      let size : 0 + (length key + digits + 1) ≡ length line = zero-add (length key + digits + 1) ∙ sym (length_for (format_of i) v) in
      let read : line_as (format_of i) line 0 ≡ is_line v (length line) = ap (λ (l : List ℕ). line_as (format_of i) l 0) (sym (append-nil line)) ∙ back ∙ ap (is_line v) size in
      content_front i line front_counts h ∙ ap (front_content (length line)) read ∙ rw (eq-eqb (length line) (length line) refl)

pub word_says : (i w : ℕ) (f : Form) → 9 ≤ i → i < 265 → w < 2 ^ 32 → decode_of w ≡ Some f → content_at i (line_of f) ≡ Number w
word_says i w f h k small e =
    content_word i (line_of f) (letter_counts (line_of f) (line_letter f)) h k ∙ ap word_content (round_trip.reads_back w f small e)
