-- An end that was polled, and the datagram that it gave.
use Rattle.std.specs.Prelude.{◌≡◌, ℕ, ◌++◌, Bool, List, is_some, Option}
use Rattle.mt_base.specs.declared.kinds.Kind.{Kind}
use Rattle.mt_base.specs.declared.kinds.Role.{Role}
use Rattle.mt_base.specs.Trace.{Trace, ◌▷◌}
use Rattle.carrier.specs.declared.state.LinkState.{LinkState}
use Rattle.carrier.specs.Entries as link
use Rattle.end_calls.specs.Calls.{Entry, WireOut}
use Rattle.endpoint.specs.Kept.{Kept}
use Rattle.endpoint.specs.Standing.{EndStands}
use Rattle.end_wires.specs.Wires.{if_given}

-- it was polled at this moment, and what it gave stands behind all that was given
pub record Gives {C P : Type 0} (carrier_stands : C → Trace link.Entry → Type 0) (carrier_left : C → List ℕ) (carrier_condition : C → LinkState) (post_stands : P → Trace link.Entry → Type 0) (post_left : P → List (List ℕ)) (post_condition : P → LinkState) (side : Role) (t : Trace Entry) (kind : Kind) (now : ℕ) (is_given : Bool) (end : Kept C P) (old all : List (Role × List ℕ)) : Type 0 where
  pub is_full : Bool
  pub out : Option (List ℕ)
  pub state : LinkState
  pub given_is : is_given ≡ is_some out
  pub all_are : all ≡ old ++ if_given side out
  pub stands : EndStands carrier_stands carrier_left carrier_condition post_stands post_left post_condition end side (t ▷ WireOut kind now is_full out state)
