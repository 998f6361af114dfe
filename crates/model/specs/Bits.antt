-- Bits of a number, bit 0 lowest.
use Rattle.std.specs.Prelude.{ℕ, ◌/◌, ◌%◌, ◌^◌, Bool, ◌==◌}

-- as 0 or 1
abbrev pub bit : ℕ → ℕ → ℕ
bit n k = n / 2 ^ k % 2

-- whether it stands
abbrev pub bit_at : ℕ → ℕ → Bool
bit_at n k = bit n k == 1
