-- What is answered, by what a text comes to. Assumes nothing.
use Rattle.std.proofs.Common.{Ok, Err}
use Prim.Native.Nat.{ℕ, ◌+◌, ◌-◌, ◌≤◌, ◌<◌}
use mathlib.Core.List.{List, ◌++◌}
use mathlib.Core.Path.{◌≡◌, ap, sym, ◌∙◌}
use native.Mathlib.Omega.{arith}
use borrow.Author.Tests.{le-leb, le-ltb, lt-leb, lt-ltb}
use lib.ListN.{length, take, drop}
use lib.Seq.{drop_at, length-take-le, sets, take-append-add, take_at}
use Rattle.session_lines.specs.Laws.{BadIsFirst}
use Rattle.session_lines.specs.LineFormats.{lines_from}
use Rattle.session_lines.specs.Parsing.{Parsed, good as good_session, bad, parsed}
use Rattle.session_lines.proofs.FirstWrongLines.{bad_is_first}
use Rattle.assembly.specs.Answers.{Outcome, LendableText, answered, answer_for}
use Rattle.assembly.specs.Assembling.{assembled, numbers_from}
use Rattle.assembly.specs.Listing.{defined_front, listed, listed_numbers, listed_session, listing_of}
use Rattle.assembly.specs.SourceLines.{bytes_of, lines_of}
use Rattle.assembly.specs.declared.Refusal.{Refusal}
use Rattle.assembly.specs.declared.Refusal.TheVariants.{TooLarge, Undefined, Wrong}

module _ (o : Outcome) (out : List ℕ) where
  pub answer_text_lem : (text : List ℕ) (r : ℕ) (after : List ℕ) → o ≡ Ok text → r ≡ length text → after ≡ sets out 0 text → answered (Ok r) after ≡ answer_for o out
  unfolding answer_for
  answer_text_lem text r after e size put = rw (e, size, put)

  pub answer_refused : (why : Refusal) → o ≡ Err why → answered (Err why) out ≡ answer_for o out
  unfolding answer_for
  answer_refused why e = rw e

pub lendable : (r : ℕ) (out : List ℕ) → r ≤ length out → LendableText (Ok r) out
lendable r out h = (h, sym (length-take-le r out h))

module _ (s : List ℕ) where
  pub assembled_large : 1048576 < length s → assembled s ≡ Err TooLarge
  unfolding assembled
  assembled_large h = rw (lt-leb (length s) 1048576 h)

  pub assembled_small : length s ≤ 1048576 → assembled s ≡ numbers_from 1 0 0 (lines_of s)
  unfolding assembled
  assembled_small h = rw (le-leb (length s) 1048576 h)

-- how the listing of a session goes

module _ (s front words : List ℕ) where
  pub listed_undefined : (d place : ℕ) → d ≡ defined_front words → d < length words → place ≡ bytes_of (9 + d) (lines_of s)
      → listed_numbers s front words ≡ Err (Undefined (10 + d) place)
  unfolding listed_numbers
  listed_undefined d place e h q =
      let before : 10 + d - 1 ≡ 9 + d = omega arith in
      rw (← e, lt-ltb d (length words) h, q, before)

  pub listed_defined : defined_front words ≡ length words → listed_numbers s front words ≡ Ok (lines_from 0 front ++ listing_of words)
  unfolding listed_numbers
  listed_defined e = rw (le-ltb (defined_front words) (length words) (omega arith))

module _ (s : List ℕ) where
  pub listed_large : 1048576 < length s → listed s ≡ Err TooLarge
  unfolding listed
  listed_large h = rw (lt-leb (length s) 1048576 h)

  module _ (h : length s ≤ 1048576) where
    listed_small : (p : Parsed) → parsed s ≡ p → listed s ≡ listed_session s p
    unfolding listed
    listed_small p e = rw (le-leb (length s) 1048576 h, e)

    -- the nine numbers and the words, as the parser leaves them
    pub listed_good : (front words : List ℕ) (n : ℕ) → length front ≡ 9 → 9 ≤ n → good_session (take n (front ++ words)) ≡ parsed s
        → listed s ≡ listed_numbers s front (take (n - 9) words)
    listed_good front words n nine enough e =
        let v : List ℕ = front ++ take (n - 9) words in
        let count : n ≡ length front + (n - 9) = omega arith in
        let cut : take n (front ++ words) ≡ v = ap (λ (k : ℕ). take k (front ++ words)) count ∙ take-append-add front words (n - 9) in
        listed_small (good_session v) (sym e ∙ ap good_session cut)
        ∙ ap (λ (l : List ℕ). listed_numbers s l (drop 9 v)) (take_at front (take (n - 9) words) 9 nine)
        ∙ ap (listed_numbers s front) (drop_at front (take (n - 9) words) 9 nine)

    pub listed_bad : (number place : ℕ) → bad number ≡ parsed s → place ≡ bytes_of (number - 1) (lines_of s)
        → listed s ≡ Err (Wrong number (number - 1) place)
    listed_bad number place e q = rw q (listed_small (bad number) (sym e))

pub from_one : (s : List ℕ) (number : ℕ) → bad number ≡ parsed s → 1 ≤ number
unfolding BadIsFirst
from_one s number e = omega (arith, (bad_is_first s number (sym e)).3)
