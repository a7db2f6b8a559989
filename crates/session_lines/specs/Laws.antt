-- Laws of the definitions (document 01, "The session program"): each is stated here, and proved in proofs/ under its name
-- (good_is_read, only_good_is_read, bad_is_first, prefix_says).
use Rattle.std.specs.Prelude.{ℕ, ◌+◌, ◌≤◌, ◌<◌, false, ◌&&◌, List, ◌++◌, ◌≡◌, leb, length, take, drop}
use Rattle.std.specs.Prelude.{None}
use Rattle.session_lines.specs.LineFormats.{GoodNumbers, InRange, format_of, lines_from}
use Rattle.session_lines.specs.Parsing.{good, bad, ended, line_of, parsed}

-- Every good session is read.
unfoldable pub GoodIsRead : Type 0
GoodIsRead = (v : List ℕ) → GoodNumbers v → parsed (lines_from 0 v) ≡ good v

-- Nothing else is read.
unfoldable pub OnlyGoodIsRead : Type 0
OnlyGoodIsRead = (s v : List ℕ) → parsed s ≡ good v → GoodNumbers v × (s ≡ lines_from 0 v)

-- Where a session is bad: before the place stand good lines, one for each number of v, and at it one too many, or none of its format
-- though the text may not end there or does not.
pub record FirstWrong (s v : List ℕ) (at : ℕ) : Type 0 where
  pub range : InRange 0 v
  pub most : length v ≤ 265
  pub place : at ≡ length (lines_from 0 v)
  pub text : s ≡ lines_from 0 v ++ drop at s
  pub extra : length v ≡ 265 → at < length s
  pub wrong : length v < 265 → line_of (format_of (length v)) s at ≡ None
  pub needed : length v < 265 → leb 9 (length v) && ended s at ≡ false

-- The number of a bad session is that of its first wrong, missing, unended or extra line.
unfoldable pub BadIsFirst : Type 0
BadIsFirst =
    (s : List ℕ) (number : ℕ) → parsed s ≡ bad number → (v : List ℕ) × (at : ℕ) × FirstWrong s v at × (number ≡ length v + 1)

-- The longest good session has 3,732 bytes. Of a longer input 3,733 bytes decide what it says.
unfoldable pub PrefixSays : Type 0
PrefixSays = (s : List ℕ) → parsed (take 3733 s) ≡ parsed s
