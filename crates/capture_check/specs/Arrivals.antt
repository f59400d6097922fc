-- The datagrams that were given, by what they show, and the numbers that came, as values.
use Rattle.std.specs.Prelude.{ℕ, nat_eq, Bool, List, [], ◌∷◌, ◌++◌, Option, Some, None, if◌then◌else◌}
use Rattle.std.specs.List.{list_any}
use Rattle.mt_base.specs.declared.kinds.Role.{Role}
use Rattle.mt_base.specs.declared.kinds.Role.TheVariants.{Server, Client}
use Rattle.mt_base.specs.declared.kinds.Kind.{Kind}
use Rattle.mt_base.specs.declared.kinds.Kind.TheVariants.{Reliable, Lossy}

-- whether a number is among those that came
abbrev pub has : List ℕ → ℕ → Bool
has came n = list_any (nat_eq n) came

abbrev pub with_number : ℕ → List ℕ → List ℕ
with_number n came = if has came n then came else came ++ n ∷ []

-- For each datagram of a side and kind, in order of their numbers, the number that it shows, if any;
-- and the numbers that those showed which came.
pub record ArrivedView : Type 0 where
  pub given : List (Option ℕ)
  pub came : List ℕ

abbrev pub none_given : ArrivedView
none_given = record { given = []; came = [] }

-- a further datagram is given
abbrev pub with_given : Option ℕ → ArrivedView → ArrivedView
with_given shown a = record { given = a.given ++ shown ∷ []; came = a.came }

-- a datagram comes that was given, or was not
abbrev pub with_came : Option (Option ℕ) → ArrivedView → ArrivedView
with_came (Some (Some n)) a = record { given = a.given; came = with_number n a.came }
with_came (Some None) a = a
with_came None a = a

-- the datagrams of both sides and kinds
pub record ArrivalsView : Type 0 where
  pub server_reliable : ArrivedView
  pub client_reliable : ArrivedView
  pub server_lossy : ArrivedView
  pub client_lossy : ArrivedView

abbrev pub no_arrivals : ArrivalsView
no_arrivals = record {
  server_reliable = none_given;
  client_reliable = none_given;
  server_lossy = none_given;
  client_lossy = none_given;
}

abbrev pub arrived_of : ArrivalsView → Role → Kind → ArrivedView
arrived_of a Server Reliable = a.server_reliable
arrived_of a Client Reliable = a.client_reliable
arrived_of a Server Lossy = a.server_lossy
arrived_of a Client Lossy = a.client_lossy

abbrev pub with_arrived : ArrivalsView → Role → Kind → ArrivedView → ArrivalsView
with_arrived a Server Reliable new = record a { server_reliable = new }
with_arrived a Client Reliable new = record a { client_reliable = new }
with_arrived a Server Lossy new = record a { server_lossy = new }
with_arrived a Client Lossy new = record a { client_lossy = new }
