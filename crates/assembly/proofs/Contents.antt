-- What a line says. Assumes nothing.
use Prim.Native.Nat.{ℕ, ◌≤◌, ◌<◌}
use mathlib.Core.Bool.{Bool, true, false}
use mathlib.Core.List.{List}
use mathlib.Core.Path.{◌≡◌, refl, sym, ◌∙◌}
use native.Mathlib.Omega.{arith}
use borrow.Author.Tests.{le-ltb, lt-ltb, ltb-false, ltb-true}
use lib.Dec.{ltb}
use lib.ListN.{length}
use Rattle.session_lines.specs.LineFormats.{format_of}
use Rattle.session_lines.specs.Parsing.{line_of}
use Rattle.listing.specs.Reading.{read_of}
use Rattle.assembly.specs.Assembling.{content_at, front_content, word_content}
use Rattle.assembly.specs.SourceLines.{passed_over}
use Rattle.assembly.specs.declared.reader.Content.TheVariants.{Passed, Number, Unexpected}

module _ (i : ℕ) (line : List ℕ) where
  pub content_passed : passed_over line ≡ true → content_at i line ≡ Passed
  unfolding content_at
  content_passed e = rw e

  module _ (on : passed_over line ≡ false) where
    pub content_front : i < 9 → content_at i line ≡ front_content (length line) (line_of (format_of i) line 0)
    unfolding content_at
    content_front h = rw (on, lt-ltb i 9 h)

    pub content_word : 9 ≤ i → i < 265 → content_at i line ≡ word_content (read_of line)
    unfolding content_at
    content_word h k = rw (on, le-ltb i 9 h, lt-ltb i 265 k)

    pub content_extra : 265 ≤ i → content_at i line ≡ Unexpected
    unfolding content_at
    content_extra h = rw (on, le-ltb i 9 (omega arith), le-ltb i 265 h)

-- a number is read only where one of the nine or a word is expected

module _ (i : ℕ) (line : List ℕ) (v : ℕ) (e : content_at i line ≡ Number v) where
  small_by : (b : Bool) → ltb i 265 ≡ b → passed_over line ≡ false → i < 265
  small_by true q on = ltb-true i 265 q
  small_by false q on =
      let no : Unexpected ≡ Number v = sym (content_extra i line on (ltb-false i 265 q)) ∙ e in
      absurd cc

  expected_by : (b : Bool) → passed_over line ≡ b → i < 265
  expected_by true q =
      let no : Passed ≡ Number v = sym (content_passed i line q) ∙ e in
      absurd cc
  expected_by false q = small_by (ltb i 265) refl q

  pub number_expected : i < 265
  number_expected = expected_by (passed_over line) refl
