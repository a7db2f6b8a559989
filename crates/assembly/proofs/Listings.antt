-- The words of a session, listed. Assumes nothing.
use Rattle.std.proofs.Common.{Option, Some, None, Bool, cond, unwrap_or, is_none, sym}
use Rattle.std.specs.List.{position_from}
use Prim.Native.Nat.{ℕ, suc, ◌+◌, ◌*◌, ◌≤◌, zero-le}
use mathlib.Core.List.{List, [], ◌∷◌, ◌++◌}
use mathlib.Core.Path.{◌≡◌, refl, ap, sym, ◌∙◌}
use native.Mathlib.Nat.{add-zero, zero-add}
use native.Mathlib.Omega.{arith}
use borrow.Author.Tests.{le-leb}
use lib.ListN.{length, length-append}
use lib.Seq.{length-sets, sets}
use Rattle.isa.specs.Decoding.{decode_of}
use Rattle.isa.specs.declared.Form.{Form}
use Rattle.text.specs.Lines.{room_for}
use Rattle.text.proofs.Writing.{after}
use Rattle.listing.specs.Lines.{line_of}
use Rattle.listing.specs.Writing.{Written, listed_at, listed_words, put_at, written}
use Rattle.listing.proofs.Lengths.{line_short}
use Rattle.assembly.specs.Listing.{defined_front, form_line, listing_of}

-- the first undefined word, as it is looked for

abbrev pub Undefined : ℕ → Bool
Undefined w = is_none (decode_of w)

found_by : (d : Option Form) (w : ℕ) (ws : List ℕ) (i : ℕ) → decode_of w ≡ d
    → i + 1 + defined_front ws ≡ unwrap_or (position_from Undefined (i + 1) ws) (i + 1 + length ws)
    → i + defined_front (w ∷ ws) ≡ unwrap_or (cond (is_none d) (Some i) (position_from Undefined (i + 1) ws)) (i + suc (length ws))
unfolding defined_front
found_by (Some f) w ws i e rest =
    let more : (n : ℕ) → i + suc n ≡ i + 1 + n = λ n. omega arith in
    rw (e, defined_front) (more (defined_front ws) ∙ rest ∙ ap (unwrap_or (position_from Undefined (i + 1) ws)) (sym (more (length ws))))
found_by None w ws i e rest = rw (e, defined_front) (omega arith)

found_from : (ws : List ℕ) (i : ℕ) → i + defined_front ws ≡ unwrap_or (position_from Undefined i ws) (i + length ws)
unfolding defined_front
found_from [] i = refl
found_from (w ∷ ws) i = found_by (decode_of w) w ws i refl (found_from ws (i + 1))

pub front_found : (ws : List ℕ) → unwrap_or (position_from Undefined 0 ws) (length ws) ≡ defined_front ws
front_found ws = let e = found_from ws 0 in sym (rw (zero-add (defined_front ws), zero-add (length ws)) at e)

-- the first of some words that are all defined, and the others
pub record AllDefined (w : ℕ) (ws : List ℕ) : Type 0 where
  pub form : Form
  pub is : decode_of w ≡ Some form
  pub rest : defined_front ws ≡ length ws

all_by : (w : ℕ) (ws : List ℕ) (d : Option Form) → decode_of w ≡ d → defined_front (w ∷ ws) ≡ suc (length ws) → AllDefined w ws
unfolding defined_front
all_by w ws (Some f) e h = let more : suc (defined_front ws) ≡ suc (length ws) = rw (e, defined_front) at h in
    record { form = f; is = e; rest = omega arith }
all_by w ws None e h = let none : 0 ≡ suc (length ws) = rw (e, defined_front) at h in absurd (omega arith)

pub all_defined : (w : ℕ) (ws : List ℕ) → defined_front (w ∷ ws) ≡ suc (length ws) → AllDefined w ws
all_defined w ws h = all_by w ws (decode_of w) refl h

-- and back
pub front_defined : (w : ℕ) (ws : List ℕ) (f : Form) → decode_of w ≡ Some f → defined_front ws ≡ length ws → defined_front (w ∷ ws) ≡ suc (length ws)
unfolding defined_front
front_defined w ws f e h = rw (e, defined_front, h)

form_short : (d : Option Form) → length (form_line d) ≤ 100
form_short (Some f) = line_short f
form_short None = zero-le

pub listing_short : (words : List ℕ) → length (listing_of words) ≤ 100 * length words
unfolding listing_of
listing_short [] = zero-le
listing_short (w ∷ ws) = rw length-append (omega (arith, form_short (decode_of w), listing_short ws))

-- a line that fits is put
module _ (out : List ℕ) (at w : ℕ) (f : Form) (e : decode_of w ≡ Some f) (room : at + length (line_of f) ≤ length out) where
  word_put : listed_at out at w ≡ written (sets out at (line_of f)) (at + length (line_of f)) 0
  unfolding listed_at put_at room_for
  word_put = rw (e, listed_at, le-leb (at + length (line_of f)) (length out) room)

-- words that are all defined are listed one behind the other, if there is room
pub words_put : (out : List ℕ) (at : ℕ) (words : List ℕ) → defined_front words ≡ length words → at + length (listing_of words) ≤ length out
    → listed_words (written out at 0) words ≡ written (sets out at (listing_of words)) (at + length (listing_of words)) 0
unfolding listed_words listing_of
words_put out at [] h room = ap (λ (k : ℕ). written out k 0) (sym (add-zero at))
words_put out at (w ∷ ws) h room =
    let all = all_defined w ws h in
    let line = line_of all.form in
    let same : form_line (decode_of w) ≡ line = rw all.is in
    let long : length (form_line (decode_of w) ++ listing_of ws) ≡ length line + length (listing_of ws) = simp (length-append, same) in
    let size : at + length line + length (listing_of ws) ≡ at + length (form_line (decode_of w) ++ listing_of ws) = omega arith in
    let first = word_put out at w all.form all.is (omega arith) in
    let rest = words_put (sets out at line) (at + length line) ws all.rest (rw length-sets (omega arith)) in
    ap (λ (x : Written). listed_words x ws) first
    ∙ rest
    ∙ ap (λ (l : List ℕ). written l (at + length line + length (listing_of ws)) 0)
    (after out at line (length line) (sets out at line) (at + length line) (listing_of ws) refl refl refl ∙ ap (λ (l : List ℕ). sets out at (l ++ listing_of ws)) (sym same))
    ∙ ap (λ (k : ℕ). written (sets out at (form_line (decode_of w) ++ listing_of ws)) k 0) size

-- no more words are defined than there are

within_by : (w : ℕ) (ws : List ℕ) (d : Option Form) → decode_of w ≡ d → defined_front ws ≤ length ws → defined_front (w ∷ ws) ≤ suc (length ws)
unfolding defined_front
within_by w ws (Some f) e h = rw (e, defined_front) (omega arith)
within_by w ws None e h = rw (e, defined_front) zero-le

pub front_within : (ws : List ℕ) → defined_front ws ≤ length ws
unfolding defined_front
front_within [] = zero-le
front_within (w ∷ ws) = within_by w ws (decode_of w) refl (front_within ws)
