-- Numbers of 32 bits.
use Rattle.std.specs.Prelude.{ℕ, ◌-◌, ◌^◌, nat_le, Option, None, Some, if◌then◌else◌}

-- the greatest number of 32 bits
abbrev pub greatest : ℕ
greatest = 2 ^ 32 - 1

-- the number, if it has 32 bits
abbrev pub within_32_bits : ℕ → Option ℕ
within_32_bits number = if nat_le number greatest then Some number else None
