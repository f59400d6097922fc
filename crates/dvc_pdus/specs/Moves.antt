-- The list of some channels by its length. There is none where there is no channel.
use Rattle.std.specs.Prelude.{◌==◌, ℕ, ◌+◌, ◌*◌, List, [], ◌∷◌, length, replicate, if◌then◌else◌}

-- how many bytes it has
abbrev pub channels_length : List ℕ → ℕ
channels_length ids = if length ids == 0 then 0 else 6 + 4 * length ids
