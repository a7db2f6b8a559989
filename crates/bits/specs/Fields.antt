-- Fields of a number: document 01, "Words", writes them by their highest and lowest bit, "imm6 at 21:16".
use Rattle.std.specs.Prelude.{ℕ, ◌+◌, ◌-◌, ◌*◌, ◌/◌, ◌%◌, ◌^◌}

-- bits low + width - 1 down to low of w
abbrev pub bits_at : ℕ → ℕ → ℕ → ℕ
bits_at w low width = w / 2 ^ low % 2 ^ width

-- w with v in place of those bits
abbrev pub with_bits : ℕ → ℕ → ℕ → ℕ → ℕ
with_bits w low width v = w - bits_at w low width * 2 ^ low + v * 2 ^ low
