-- A datagram comes at the other end, or why it doesn't.
use Rattle.std.specs.Prelude.{◌≡◌, ℕ, ◌≤◌, ◌<◌, List, length, Option, Some}
use Rattle.mt_base.specs.declared.kinds.Kind.{Kind}
use Rattle.mt_base.specs.declared.kinds.Role.{Role}
use Rattle.mt_base.specs.Ends.{other}
use Rattle.mt_base.specs.Trace.{Trace, ◌▷◌}
use Rattle.carrier.specs.declared.state.LinkState.{LinkState}
use Rattle.carrier.specs.declared.state.Took.{Took}
use Rattle.carrier.specs.Entries as link
use Rattle.mt_endpoint.specs.Acts.{Act}
use Rattle.end_calls.specs.Calls.{Came, Entry, Handed, Pull, WireIn}
use Rattle.endpoint.specs.Kept.{Kept}
use Rattle.endpoint.specs.Standing.{EndStands}
use Rattle.link_traffic.specs.Given.{by, later, numbered}
use Rattle.end_wires.specs.Wires.{given_on}
use Rattle.end_pair.specs.declared.pair.TheConstants.{LATE}
use Rattle.end_pair.specs.declared.wires.DeliverRefusal.{DeliverRefusal}
use Rattle.end_pair.specs.declared.wires.DeliverRefusal.TheVariants as refusal

-- this is the datagram of this side with this number, and fewer than LATE were given after it
pub record IsDue (side : Role) (number : ℕ) (all : List (Role × List ℕ)) (datagram : List ℕ) : Type 0 where
  pub datagram_is : numbered side number all ≡ Some datagram
  pub behind : ℕ
  pub behind_is : later side number all ≡ Some behind
  pub in_time : behind < LATE

-- why it does not come: it was not given, or it is too late
abbrev pub WhyNotDelivered : Role → ℕ → List (Role × List ℕ) → DeliverRefusal → Type 0
WhyNotDelivered side number all (refusal.NotGiven given) = (given ≡ length (by side all)) × (given ≤ number)
WhyNotDelivered side number all (refusal.TooLate behind limit) = (later side number all ≡ Some behind) × (limit ≡ LATE) × (LATE ≤ behind)

-- it came at an end, which reads what its links have then
pub record Brings {C P : Type 0} (carrier_stands : C → Trace link.Entry → Type 0) (carrier_left : C → List ℕ) (carrier_condition : C → LinkState) (post_stands : P → Trace link.Entry → Type 0) (post_left : P → List (List ℕ)) (post_condition : P → LinkState) (side : Role) (number : ℕ) (all : List (Role × List ℕ)) (role : Role) (t : Trace Entry) (kind : Kind) (now : ℕ) (took : Took) (end : Kept C P) : Type 0 where
  pub datagram : List ℕ
  pub due : IsDue side number all datagram
  pub load : ℕ
  pub came : Came
  pub pulls : Trace Pull
  pub parts : Trace Handed
  pub lack : Option (Trace Act)
  pub stands : EndStands carrier_stands carrier_left carrier_condition post_stands post_left post_condition end role (t ▷ WireIn kind now datagram took load came pulls parts lack)

-- the datagram of this side with this number came at the other end
pub record Delivers (side : Role) (kind : Kind) (number now : ℕ) (took : Took) (w v : Trace (Role × Entry)) : Type 0 where
  pub datagram : List ℕ
  pub due : IsDue side number (given_on kind w) datagram
  pub load : ℕ
  pub came : Came
  pub pulls : Trace Pull
  pub parts : Trace Handed
  pub lack : Option (Trace Act)
  pub list_is : v ≡ w ▷ (other side, WireIn kind now datagram took load came pulls parts lack)
