-- A row of bits in words of 64.
use Rattle.std.specs.Prelude.{ℕ, ◌/◌, ◌%◌, ◌==◌, Bool, List, get_or}
use Rattle.std.specs.Int.{bit_at}

-- whether the bit with this number is set: bit `k mod 64` of word `k / 64`, from the lowest on
abbrev pub is_set : List ℕ → ℕ → Bool
is_set words k = bit_at (get_or words (k / 64) 0) (k % 64) == 1
