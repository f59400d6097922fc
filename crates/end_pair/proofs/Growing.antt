-- Two ends of which one made a call.
use Rattle.std.proofs.Common.{◌≡◌, ℕ, List, [], ◌++◌, sym, ap, ◌∙◌, append-nil}
use Rattle.mt_base.specs.declared.kinds.Kind.{Kind}
use Rattle.mt_base.specs.declared.kinds.Kind.TheVariants.{Reliable, Lossy}
use Rattle.mt_base.specs.declared.kinds.Role.{Role}
use Rattle.mt_base.specs.declared.kinds.Role.TheVariants.{Server, Client}
use Rattle.mt_base.specs.Ends.{other}
use Rattle.mt_base.specs.Prefix.{IsPrefixOf}
use Rattle.mt_base.specs.Trace.{Trace, ◌▷◌}
use Rattle.carrier.specs.declared.state.LinkState.{LinkState}
use Rattle.carrier.specs.Entries as link
use Rattle.mt_endpoint.specs.Acts.{Act}
use Rattle.end_calls.specs.Calls.{Entry, Own}
use Rattle.end_calls.specs.Law.{given_main, taken_main}
use Rattle.end_calls.specs.Net.{at, main_in, main_out}
use Rattle.endpoint.specs.Kept.{Kept}
use Rattle.endpoint.specs.Standing.{EndStands}
use Rattle.end_wires.specs.Wires.{IsInTime, gives}
use Rattle.end_pair.specs.declared.pair.TheConstants.{LATE}
use Rattle.end_pair.specs.Joined.{Joined, PairStands, end_of, from, on}

-- each took the front of what left the other
in_order : {C P : Type 0} (pair : Joined C P) (w : Trace (Role × Entry)) → ((role : Role) → given_main (at role w) ≡ taken_main (at (other role) w) ++ from role pair) → (role : Role) → IsPrefixOf (main_in role w) (main_out (other role) w)
in_order pair w under_way Server = (from Client pair, under_way Client)
in_order pair w under_way Client = (from Server pair, under_way Server)

-- one call more
pub grows : {C P : Type 0} (carrier_stands : C → Trace link.Entry → Type 0) (carrier_left : C → List ℕ) (carrier_condition : C → LinkState) (post_stands : P → Trace link.Entry → Type 0) (post_left : P → List (List ℕ)) (post_condition : P → LinkState) (pair now : Joined C P) (w : Trace (Role × Entry)) (side : Role) (entry : Entry)
    → PairStands carrier_stands carrier_left carrier_condition post_stands post_left post_condition pair w
    → ((role : Role) → EndStands carrier_stands carrier_left carrier_condition post_stands post_left post_condition (end_of role now) role (at role (w ▷ (side, entry))))
    → ((role : Role) → given_main (at role (w ▷ (side, entry))) ≡ taken_main (at (other role) (w ▷ (side, entry))) ++ from role now)
    → ((kind : Kind) → on kind now ≡ on kind pair ++ gives kind side entry) → IsInTime LATE side w entry
    → PairStands carrier_stands carrier_left carrier_condition post_stands post_left post_condition now (w ▷ (side, entry))
grows carrier_stands carrier_left carrier_condition post_stands post_left post_condition pair now w side entry s ends under_way given in_time = record {
  ends = ends;
  under_way = under_way;
  main = (in_order now (w ▷ (side, entry)) under_way, s.main);
  given = λ kind. given kind ∙ ap (λ xs. xs ++ gives kind side entry) (s.given kind);
  in_time = (in_time, s.in_time);
}

-- the pair with another end on one side
abbrev pub with_end : {C P : Type 0} → Role → Kept C P → Joined C P → Joined C P
with_end Server kept pair = record pair { server = kept }
with_end Client kept pair = record pair { client = kept }

same_given : {C P : Type 0} (side : Role) (kept : Kept C P) (pair : Joined C P) (kind : Kind) → on kind (with_end side kept pair) ≡ on kind pair ++ []
same_given Server kept pair Reliable = sym (append-nil pair.reliable)
same_given Server kept pair Lossy = sym (append-nil pair.lossy)
same_given Client kept pair Reliable = sym (append-nil pair.reliable)
same_given Client kept pair Lossy = sym (append-nil pair.lossy)

-- a step of an end's own
pub own_call : {C P : Type 0} (carrier_stands : C → Trace link.Entry → Type 0) (carrier_left : C → List ℕ) (carrier_condition : C → LinkState) (post_stands : P → Trace link.Entry → Type 0) (post_left : P → List (List ℕ)) (post_condition : P → LinkState) (pair : Joined C P) (w : Trace (Role × Entry)) (side : Role) (kept : Kept C P) (act : Act)
    → PairStands carrier_stands carrier_left carrier_condition post_stands post_left post_condition pair w
    → EndStands carrier_stands carrier_left carrier_condition post_stands post_left post_condition kept side (at side w ▷ Own act)
    → PairStands carrier_stands carrier_left carrier_condition post_stands post_left post_condition (with_end side kept pair) (w ▷ (side, Own act))
own_call {C} {P} carrier_stands carrier_left carrier_condition post_stands post_left post_condition pair w Server kept act s e =
    grows carrier_stands carrier_left carrier_condition post_stands post_left post_condition pair (with_end Server kept pair) w Server (Own act) s ends under_way (same_given Server kept pair) tt where
      ends : (role : Role) → EndStands carrier_stands carrier_left carrier_condition post_stands post_left post_condition (end_of role (with_end Server kept pair)) role (at role (w ▷ (Server, Own act)))
      ends Server = e
      ends Client = s.ends Client

      under_way : (role : Role) → given_main (at role (w ▷ (Server, Own act))) ≡ taken_main (at (other role) (w ▷ (Server, Own act))) ++ from role (with_end Server kept pair)
      under_way Server = s.under_way Server
      under_way Client = s.under_way Client
own_call {C} {P} carrier_stands carrier_left carrier_condition post_stands post_left post_condition pair w Client kept act s e =
    grows carrier_stands carrier_left carrier_condition post_stands post_left post_condition pair (with_end Client kept pair) w Client (Own act) s ends under_way (same_given Client kept pair) tt where
      ends : (role : Role) → EndStands carrier_stands carrier_left carrier_condition post_stands post_left post_condition (end_of role (with_end Client kept pair)) role (at role (w ▷ (Client, Own act)))
      ends Server = s.ends Server
      ends Client = e

      under_way : (role : Role) → given_main (at role (w ▷ (Client, Own act))) ≡ taken_main (at (other role) (w ▷ (Client, Own act))) ++ from role (with_end Client kept pair)
      under_way Server = s.under_way Server
      under_way Client = s.under_way Client
