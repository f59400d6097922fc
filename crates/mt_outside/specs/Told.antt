-- What a device tells of its calls: lists, or nothing for good, and counts.
use Rattle.std.specs.Prelude.{ℕ, ◌+◌, ◌-◌, ◌^◌, List, ◌++◌, min, Option}
use Rattle.std.specs.Option.{option_map}

-- what is told, with more at its end; what isn't told stays so
abbrev pub added : {A : Type 0} → Option (List A) → List A → Option (List A)
added told more = option_map (λ list. list ++ more) told

-- a count that rises by one, or stands at the greatest value of a u64
abbrev pub counted : ℕ → ℕ
counted n = min (n + 1) (2 ^ 64 - 1)
