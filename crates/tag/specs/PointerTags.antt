-- A pointer's tag (document 01, "What each word does": "bits 59:56 of Rn").
use Rattle.std.specs.Prelude.{ℕ}
use Rattle.bits.specs.Fields.{bits_at, with_bits}

-- a pointer's tag: bits 59:56
abbrev pub tag_of : ℕ → ℕ
tag_of v = bits_at v 56 4

-- a pointer with its tag replaced
abbrev pub with_tag : ℕ → ℕ → ℕ
with_tag v tag = with_bits v 56 4 tag
