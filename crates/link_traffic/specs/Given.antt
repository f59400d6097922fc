-- The datagrams of a link, in the order in which they were given, and those of one side.
use Rattle.std.specs.Prelude.{◌≡◌, ℕ, ◌+◌, ◌-◌, ◌<◌, ◌≤◌, List, [], ◌∷◌, length, slice_get, option_map, Option, Some, None, if◌then◌else◌}
use Rattle.mt_base.specs.declared.kinds.Role.{Role}
use Rattle.mt_base.specs.Ends.{same_role}

-- the datagrams that this side gave
abbrev pub by : Role → List (Role × List ℕ) → List (List ℕ)
by side [] = []
by side (given ∷ rest) = if same_role side given.0 then given.1 ∷ by side rest else by side rest

-- their places among all, where the first of all has this place
abbrev pub places_from : ℕ → Role → List (Role × List ℕ) → List ℕ
places_from place side [] = []
places_from place side (given ∷ rest) =
    if same_role side given.0 then place ∷ places_from (place + 1) side rest else places_from (place + 1) side rest

abbrev pub places : Role → List (Role × List ℕ) → List ℕ
places side all = places_from 0 side all

-- the datagram with this number
abbrev pub numbered : Role → ℕ → List (Role × List ℕ) → Option (List ℕ)
numbered side number all = slice_get (by side all) number

-- how many were given after it
abbrev pub later : Role → ℕ → List (Role × List ℕ) → Option ℕ
later side number all = option_map (λ place. length all - (place + 1)) (slice_get (places side all) number)

-- the least number after whose datagram at most so many were given
abbrev pub IsOldest : Role → ℕ → List (Role × List ℕ) → Option ℕ → Type 0
IsOldest side most all None = (number behind : ℕ) → later side number all ≡ Some behind → most < behind
IsOldest side most all (Some oldest) =
    ((behind : ℕ) × (later side oldest all ≡ Some behind) × (behind ≤ most))
    × ((number behind : ℕ) → number < oldest → later side number all ≡ Some behind → most < behind)
