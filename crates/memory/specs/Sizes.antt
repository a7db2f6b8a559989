-- The rule of the setup on sizes and base (document 01, "Sizes and shape of the setup").
use Rattle.std.specs.Prelude.{ℕ, ◌+◌, ◌*◌, ◌%◌, ◌^◌, Bool, ◌&&◌, ◌==◌, nat_le}

-- g tag bytes, 0 to 65,536, and exactly 16 × g data bytes; the base is a multiple of 16 and base + 16 × g is at most 2^56
unfoldable pub sizes_ok : ℕ → ℕ → ℕ → Bool
sizes_ok base bytes g = nat_le g 65536 && bytes == 16 * g && base % 16 == 0 && nat_le (base + 16 * g) (2 ^ 56)
