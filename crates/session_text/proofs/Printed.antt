-- What is printed: lines put one behind another, and their length. Assumes nothing.
use Prim.Native.Nat.{ℕ, ◌+◌}
use mathlib.Core.List.{List, ◌++◌}
use mathlib.Core.Path.{◌≡◌}
use native.Mathlib.Omega.{arith}
use lib.ListN.{length, length-append}
use lib.Seq.{sets}
use Rattle.text.specs.Lines.{line_text}
use Rattle.text.proofs.Writing.{after, length_line, length_digits_line}
use Rattle.machine.specs.declared.Code.{Code}
use Rattle.machine.specs.declared.Registers.{Registers}
use Rattle.session_text.specs.Printing.{answer_lines, bad_text, register_lines, report_text}

-- a line, and more behind it
pub then : (l : List ℕ) (at : ℕ) (key : List ℕ) (n v : ℕ) (l₁ : List ℕ) (p : ℕ) (more : List ℕ) → l₁ ≡ sets l at (line_text key n v) → p ≡ at + (length key + n + 1)
    → sets l₁ p more ≡ sets l at (line_text key n v ++ more)
then l at key n v l₁ p more e q = after l at (line_text key n v) (length key + n + 1) l₁ p more (length_line key n v) e q

pub bad_long : (number : ℕ) → length (bad_text number) ≡ 9
unfolding bad_text
bad_long number = simp length_line

pub answer_long : (count : ℕ) (code : Code) → length (answer_lines count code) ≡ 17
unfolding answer_lines
answer_long count code = simp (length-append, length_line)

pub registers_long : (x : List ℕ) → length (register_lines x) ≡ 80
unfolding register_lines
registers_long x = simp (length-append, length_line)

pub report_long : (count : ℕ) (code : Code) (registers : Registers) (tags : List ℕ) → length (report_text count code registers tags) ≡ 110 + length tags
unfolding report_text
report_long count code registers tags =
    simp (length-append, answer_long, registers_long, length_line, length_digits_line) (omega arith)
