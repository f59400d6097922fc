-- Which number a flag of a coded vector tells of.
use Rattle.std.specs.Prelude.{ℕ, ◌-◌, Bool, List, nat_le, if◌then◌else◌, Option, None, slice_get}

-- The first flag tells of the number `base`, each further flag of the next number.
abbrev pub flag_told : List Bool → ℕ → ℕ → Option Bool
flag_told flags base number = if nat_le base number then slice_get flags (number - base) else None
