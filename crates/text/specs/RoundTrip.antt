-- What is put reads back (document 01, "The session program"; docs/MANUAL.md). Proved in proofs/Round.
use Rattle.std.specs.Prelude.{ℕ, ◌+◌, ◌^◌, ◌≤◌, ◌<◌, List, ◌++◌, ◌≡◌, length}
use Rattle.std.specs.Prelude.{Some}
use Rattle.text.specs.Hex.{low_bits}
use Rattle.text.specs.Lines.{is_line, line_at, line_text, digits_line, digits_line_at}

-- the line of a number, wherever it stands
abbrev pub LineBack : Type 0
LineBack =
    (key : List ℕ) (n most v : ℕ) (before behind : List ℕ) → v < 16 ^ n → v ≤ most
    → line_at key n most (before ++ (line_text key n v ++ behind)) (length before) ≡ is_line v (length before + (length key + n + 1))

-- the line of digits, as the low four bits of each byte, wherever it stands
abbrev pub DigitsLineBack : Type 0
DigitsLineBack =
    (key t before behind : List ℕ)
    → digits_line_at key (length t) (before ++ (digits_line key t ++ behind)) (length before) ≡ Some (low_bits t)
