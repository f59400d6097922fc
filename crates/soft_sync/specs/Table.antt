-- How requests and answers are kept: a row for each request, and the channels listed, each with the
-- number of its request.
use Rattle.std.specs.Prelude.{◌==◌, ℕ, ◌+◌, ◌<◌, ◌≤◌, List, [], ◌∷◌, length, map, nat_eq, All, IsSome, Bool, false, if◌then◌else◌}
use Rattle.std.specs.List.{IsDistinct}
use Rattle.std.specs.Map.{keys_of, lookup}
use Rattle.mt_base.specs.declared.kinds.Kind.{Kind}
use Rattle.soft_sync.specs.declared.row.Listing.{Listing}
use Rattle.soft_sync.specs.declared.row.Row.{Row}
use Rattle.soft_sync.specs.declared.kinds.Kinds.{Kinds}
use Rattle.soft_sync.specs.Exchanges.{Exchange, no_kinds}

-- the channels that the request of this number lists
abbrev pub listed_by : ℕ → List (ℕ × Listing) → List (ℕ × Kind)
listed_by number [] = []
listed_by number (l ∷ listings) =
    if (l.1).number == number then (l.0, (l.1).kind) ∷ listed_by number listings else listed_by number listings

abbrev pub exchange_of : Row → List (ℕ × Kind) → Exchange
exchange_of row channels = record {
  request = record { named = row.named; channels = channels };
  answer = record { is_given = row.is_given; named = row.answer };
}

-- the requests and answers of these rows, of which the first has this number
abbrev pub exchanges_from : ℕ → List Row → List (ℕ × Listing) → List Exchange
exchanges_from number [] listings = []
exchanges_from number (row ∷ rows) listings =
    exchange_of row (listed_by number listings) ∷ exchanges_from (number + 1) rows listings

abbrev pub exchanges_in : List Row → List (ℕ × Listing) → List Exchange
exchanges_in rows listings = exchanges_from 0 rows listings

-- each channel is listed once, by a request that there is, and there are at most 256 requests
pub record IsKept (rows : List Row) (listings : List (ℕ × Listing)) : Type 0 where
  pub few : length rows ≤ 256
  pub numbered : All (λ (l : ℕ × Listing). (l.1).number < length rows) listings
  pub once : IsDistinct nat_eq (keys_of listings)

-- and there is room for 256 requests and 256 channels
pub record IsRoomy (rows : List Row) (listings : List (ℕ × Listing)) (row_room spare_listings : ℕ) : Type 0 where
  pub kept : IsKept rows listings
  pub rows_fit : 256 ≤ row_room
  pub listings_fit : 256 ≤ length listings + spare_listings

-- at most 256 channels are told of, each once, and there is room for 256
pub record IsTold (channels : List (ℕ × Bool)) (spare_channels : ℕ) : Type 0 where
  pub few : length channels ≤ 256
  pub once : IsDistinct nat_eq (keys_of channels)
  pub fit : 256 ≤ length channels + spare_channels

-- each channel that is listed was told of
abbrev pub AreAmong : List (ℕ × Listing) → List (ℕ × Bool) → Type 0
AreAmong listings channels = All (λ (l : ℕ × Listing). IsSome (lookup (nat_eq l.0) channels)) listings

-- a request that was just begun
abbrev pub row_of : Kinds → Row
row_of named = record { named = named; is_given = false; answer = no_kinds }

-- these channels, listed under a kind by the request of this number
abbrev pub under : ℕ → Kind → List ℕ → List (ℕ × Listing)
under number kind ids = map (λ id. (id, record { number = number; kind = kind })) ids
