-- The four random bits of IRG (document 01, "What each word does").
use Rattle.std.specs.Prelude.{ℕ, zero, suc, ◌+◌, ◌*◌, ◌/◌, ◌%◌, ◌^◌}
use Rattle.bits.specs.Fields.{bits_at}
use Rattle.tag.specs.declared.Drawn.{Drawn}

-- a random bit: seed bits 5, 3, 2 and 0 added mod 2
unfoldable pub random_bit : ℕ → ℕ
random_bit seed = (bits_at seed 5 1 + bits_at seed 3 1 + bits_at seed 2 1 + bits_at seed 0 1) % 2

-- the seed after it: shifted right by one, with that bit as bit 15
unfoldable pub next_seed : ℕ → ℕ
next_seed seed = seed / 2 + random_bit seed * 2 ^ 15

-- n bits drawn, lowest first
unfoldable pub bits_drawn : ℕ → ℕ → ℕ
bits_drawn zero seed = 0
bits_drawn (suc n) seed = random_bit seed + 2 * bits_drawn n (next_seed seed)

-- the seed after n bits
unfoldable pub seed_drawn : ℕ → ℕ → ℕ
seed_drawn zero seed = seed
seed_drawn (suc n) seed = seed_drawn n (next_seed seed)

-- four bits, and the seed after them
abbrev pub drawn : ℕ → Drawn
drawn seed = record { bits = bits_drawn 4 seed; seed = seed_drawn 4 seed }
