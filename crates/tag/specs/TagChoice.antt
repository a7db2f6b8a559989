-- Tag choice (document 01, "What each word does"): from a start tag, an offset and a mask.
-- A tag is 0 to 15; bit t of the mask is set where tag t is masked.
use Rattle.std.specs.Prelude.{Bool, cond, ℕ, zero, suc, ◌+◌, ◌%◌, eqb}
use Rattle.bits.specs.Fields.{bits_at}

abbrev pub masked : ℕ → ℕ → Bool
masked mask tag = eqb (bits_at mask tag 1) 1

-- a tag moved on by one (mod 16)
abbrev pub next : ℕ → ℕ
next tag = (tag + 1) % 16

-- a tag moved on by one until it isn't masked, at most n times
unfoldable pub skip : ℕ → ℕ → ℕ → ℕ
skip zero mask tag = tag
skip (suc n) mask tag = cond (masked mask tag) (skip n mask (next tag)) tag

-- on past masked tags: there are 16
abbrev pub past : ℕ → ℕ → ℕ
past mask tag = skip 16 mask tag

-- so many times: move on by one, then on past masked tags
unfoldable pub walk : ℕ → ℕ → ℕ → ℕ
walk zero mask tag = tag
walk (suc n) mask tag = walk n mask (past mask (next tag))

-- mask all ones: 0; offset 0: the start, on past masked tags; otherwise the walk
unfoldable pub chosen : ℕ → ℕ → ℕ → ℕ
chosen start offset mask = cond (eqb mask 65535) 0 (cond (eqb offset 0) (past mask start) (walk offset mask start))
