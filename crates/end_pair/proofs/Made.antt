-- Two ends that were just made.
use Rattle.std.proofs.Common.{◌≡◌, ℕ, List, [], ◌++◌, refl, sym}
use Rattle.mt_base.specs.declared.kinds.Kind.{Kind}
use Rattle.mt_base.specs.declared.kinds.Kind.TheVariants.{Reliable, Lossy}
use Rattle.mt_base.specs.declared.kinds.Role.{Role}
use Rattle.mt_base.specs.declared.kinds.Role.TheVariants.{Server, Client}
use Rattle.mt_base.specs.Ends.{other}
use Rattle.mt_base.specs.Prefix.{IsPrefixOf}
use Rattle.mt_base.specs.Trace.{Trace, Start, ◌▷◌}
use Rattle.carrier.specs.declared.state.LinkState.{LinkState}
use Rattle.carrier.specs.Entries as link
use Rattle.mt_endpoint.specs.Acts.{Began}
use Rattle.end_calls.specs.Calls.{Own}
use Rattle.end_calls.specs.Law.{given_main, taken_main}
use Rattle.end_calls.specs.Net.{at, main_in, main_out}
use Rattle.endpoint.specs.Kept.{Kept}
use Rattle.endpoint.specs.Standing.{EndStands}
use Rattle.end_wires.specs.Wires.{given_on}
use Rattle.end_pair.specs.Joined.{Joined, PairStands, end_of, from, made, on}

pub both_made : {C P : Type 0} (carrier_stands : C → Trace link.Entry → Type 0) (carrier_left : C → List ℕ) (carrier_condition : C → LinkState) (post_stands : P → Trace link.Entry → Type 0) (post_left : P → List (List ℕ)) (post_condition : P → LinkState) (server client : Kept C P) (from_server from_client : List ℕ) (reliable lossy : List (Role × List ℕ)) → from_server ≡ [] → from_client ≡ [] → reliable ≡ [] → lossy ≡ []
    → EndStands carrier_stands carrier_left carrier_condition post_stands post_left post_condition server Server (Start ▷ Own Began) → EndStands carrier_stands carrier_left carrier_condition post_stands post_left post_condition client Client (Start ▷ Own Began)
    → PairStands carrier_stands carrier_left carrier_condition post_stands post_left post_condition (record { server = server; client = client; from_server = from_server; from_client = from_client; reliable = reliable; lossy = lossy }) made
both_made {C} {P} carrier_stands carrier_left carrier_condition post_stands post_left post_condition server client from_server from_client reliable lossy none_server none_client none_reliable none_lossy s c = record {
  ends = ends;
  under_way = under_way;
  main = (second, (first, tt));
  given = given;
  in_time = (tt, (tt, tt));
}
  where
    pair : Joined C P
    pair = record { server = server; client = client; from_server = from_server; from_client = from_client; reliable = reliable; lossy = lossy }

    ends : (role : Role) → EndStands carrier_stands carrier_left carrier_condition post_stands post_left post_condition (end_of role pair) role (at role made)
    ends Server = s
    ends Client = c

    under_way : (role : Role) → given_main (at role made) ≡ taken_main (at (other role) made) ++ from role pair
    under_way Server = sym none_server
    under_way Client = sym none_client

    first : (role : Role) → IsPrefixOf (main_in role (Start ▷ (Server, Own Began))) (main_out (other role) (Start ▷ (Server, Own Began)))
    first Server = ([], refl)
    first Client = ([], refl)

    second : (role : Role) → IsPrefixOf (main_in role made) (main_out (other role) made)
    second Server = ([], refl)
    second Client = ([], refl)

    given : (kind : Kind) → on kind pair ≡ given_on kind made
    given Reliable = none_reliable
    given Lossy = none_lossy
