-- Which datagram a flag of a vector tells of.
use Rattle.std.specs.Prelude.{ℕ, ◌-◌, Bool, List, reverse, nat_le, if◌then◌else◌, Option, None, slice_get}

-- The last flag tells of the number `last`, each flag before it of the number before.
abbrev pub flag_told : List Bool → ℕ → ℕ → Option Bool
flag_told flags last number =
    if nat_le number last then slice_get (reverse flags) (last - number) else None
