-- A granule's tag in its byte (document 01, "Sizes and shape of the setup").
use Rattle.std.specs.Prelude.{ℕ, ◌%◌}

-- a tag is the low four bits of its byte when read
abbrev pub tag_in : ℕ → ℕ
tag_in byte = byte % 16
