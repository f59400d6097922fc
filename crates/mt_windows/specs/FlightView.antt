-- A row of parts in flight.
use Rattle.std.specs.Prelude.{ℕ, ◌+◌, List, [], ◌∷◌, length, get_or, replicate, Option, None, unwrap_or}
use Rattle.mt_windows.specs.declared.flight.Flight.{Flight}

abbrev pub flight_at : List Flight → ℕ → Flight
flight_at flights k = get_or flights k (record { slot = None; earliest = 0; latest = 0 })

abbrev pub slot_at : List Flight → ℕ → Option (List ℕ)
slot_at flights k = (flight_at flights k).slot

-- the bytes of the parts in flight
abbrev pub bytes_in : List Flight → ℕ
bytes_in [] = 0
bytes_in (f ∷ flights) = length (unwrap_or f.slot []) + bytes_in flights

-- room for so many parts
abbrev pub no_flights : ℕ → List Flight
no_flights count = replicate count (record { slot = None; earliest = 0; latest = 0 })
