-- Two ends, and what is between them.
use Rattle.std.specs.Prelude.{◌≡◌, ℕ, ◌++◌, List}
use Rattle.mt_base.specs.declared.kinds.Kind.{Kind}
use Rattle.mt_base.specs.declared.kinds.Kind.TheVariants.{Reliable, Lossy}
use Rattle.mt_base.specs.declared.kinds.Role.{Role}
use Rattle.mt_base.specs.declared.kinds.Role.TheVariants.{Server, Client}
use Rattle.mt_base.specs.Ends.{other}
use Rattle.mt_base.specs.Trace.{Trace, Start, ◌▷◌}
use Rattle.carrier.specs.declared.state.LinkState.{LinkState}
use Rattle.carrier.specs.Entries as link
use Rattle.mt_endpoint.specs.Acts.{Began}
use Rattle.end_calls.specs.Calls.{Entry, Own}
use Rattle.end_calls.specs.Law.{given_main, taken_main}
use Rattle.end_calls.specs.Net.{at}
use Rattle.endpoint.specs.Kept.{Kept}
use Rattle.endpoint.specs.Standing.{EndStands}
use Rattle.end_pair.specs.declared.pair.TheConstants.{LATE}
use Rattle.end_wires.specs.MainStreams.{MainInOrder}
use Rattle.end_wires.specs.Wires.{AreInTime, given_on}

-- both ends; the bytes that left each of them by the main stream and that the other did not take; and the datagrams
-- that were given on each link
pub record Joined (C P : Type 0) : Type 0 where
  pub server : Kept C P
  pub client : Kept C P
  pub from_server : List ℕ
  pub from_client : List ℕ
  pub reliable : List (Role × List ℕ)
  pub lossy : List (Role × List ℕ)

abbrev pub end_of : {C P : Type 0} → Role → Joined C P → Kept C P
end_of Server pair = pair.server
end_of Client pair = pair.client

abbrev pub from : {C P : Type 0} → Role → Joined C P → List ℕ
from Server pair = pair.from_server
from Client pair = pair.from_client

abbrev pub on : {C P : Type 0} → Kind → Joined C P → List (Role × List ℕ)
on Reliable pair = pair.reliable
on Lossy pair = pair.lossy

-- both ends were made
abbrev pub made : Trace (Role × Entry)
made = Start ▷ (Server, Own Began) ▷ (Client, Own Began)

-- Two ends stand for this list of their calls, in order. Of the main streams nothing is lost, and the datagrams that
-- came were given, none too late.
pub record PairStands {C P : Type 0} (carrier_stands : C → Trace link.Entry → Type 0) (carrier_left : C → List ℕ) (carrier_condition : C → LinkState) (post_stands : P → Trace link.Entry → Type 0) (post_left : P → List (List ℕ)) (post_condition : P → LinkState) (pair : Joined C P) (w : Trace (Role × Entry)) : Type 0 where
  pub ends : (role : Role) → EndStands carrier_stands carrier_left carrier_condition post_stands post_left post_condition (end_of role pair) role (at role w)
  pub under_way : (role : Role) → given_main (at role w) ≡ taken_main (at (other role) w) ++ from role pair
  pub main : MainInOrder w
  pub given : (kind : Kind) → on kind pair ≡ given_on kind w
  pub in_time : AreInTime LATE w

-- each end stands for some list
abbrev pub PairIsLawful : {C P : Type 0} → (C → Trace link.Entry → Type 0) → (C → List ℕ) → (C → LinkState) → (P → Trace link.Entry → Type 0) → (P → List (List ℕ)) → (P → LinkState) → Joined C P → Type 0
PairIsLawful carrier_stands carrier_left carrier_condition post_stands post_left post_condition pair =
    (role : Role) → (t : Trace Entry) × EndStands carrier_stands carrier_left carrier_condition post_stands post_left post_condition (end_of role pair) role t
