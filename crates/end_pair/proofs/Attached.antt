-- A tunnel that waits for its link.
use Rattle.std.proofs.Common.{◌≡◌, ℕ, Bool, true, false, cond, not, ◌&&◌, is_some, List, Option, Some, None, refl, sym, subst}
use Rattle.mt_base.specs.declared.kinds.Kind.{Kind}
use Rattle.mt_base.specs.declared.kinds.Role.{Role}
use Rattle.mt_base.specs.Trace.{Trace, ◌▷◌}
use Rattle.carrier.specs.declared.state.LinkState.{LinkState}
use Rattle.carrier.specs.Entries as link
use Rattle.mt_endpoint.specs.Acts.{Act}
use Rattle.mt_endpoint.specs.Tunnels.{Tunnel, or_refused, or_silent, tunnel}
use Rattle.mt_endpoint.specs.Tunnels as tunnels
use Rattle.end_calls.specs.declared.fault.Fault.{Fault}
use Rattle.end_calls.specs.Calls.{Entry, Own}
use Rattle.end_session.specs.Known.{Known, is_open_in, refusal_in, state_of, tunnel_in}
use Rattle.endpoint.specs.Kept.{Kept}
use Rattle.endpoint.specs.Standing.{EndStands}
use Rattle.endpoint.specs.States.{end_state}
use Rattle.end_calls.specs.Streams.{Past}
use Rattle.end_pair.specs.Attaching.{Waits, is_asked_state, is_fine, may_attach}

by_parts : (silence : Option ℕ) (is_open : Bool) (refusal : Option ℕ) (attached has : Bool) → is_asked_state (state_of (or_silent silence (cond is_open tunnels.Open (or_refused refusal (cond attached tunnels.Attached (cond has tunnels.Asked tunnels.Absent)))))) ≡ true
    → (has ≡ true) × (attached ≡ false) × (refusal ≡ None)
by_parts (Some e) is_open refusal attached has h = absurd (let no : false ≡ true = h in cc)
by_parts None true refusal attached has h = absurd (let no : false ≡ true = h in cc)
by_parts None false (Some hr) attached has h = absurd (let no : false ≡ true = h in cc)
by_parts None false None true has h = absurd (let no : false ≡ true = h in cc)
by_parts None false None false true h = (refl, refl, refl)
by_parts None false None false false h = absurd (let no : false ≡ true = h in cc)

pub waits : (role : Role) (k : Known) → is_asked_state (state_of (tunnel_in role k)) ≡ true → Waits role k
waits role k h =
    let p = by_parts k.silence (is_open_in role k) (refusal_in role k) k.is_attached (is_some k.asked) h in record { asked = p.0; unattached = p.1; unrefused = p.2 }

pub fine_is : (broken : Option Fault) → is_fine (end_state broken) ≡ not (is_some broken)
fine_is None = refl
fine_is (Some fault) = refl

-- an end that may attach goes on
pub goes_on : (role : Role) (kind : Kind) (p : Past) → may_attach role kind p ≡ true → p.broken ≡ None
goes_on role kind p h = by_fault p.broken h where
  by_fault : (broken : Option Fault) → not (is_some broken) && is_asked_state (state_of (tunnel role kind p.acts)) ≡ true → broken ≡ None
  by_fault None h = refl
  by_fault (Some fault) h = absurd (let no : false ≡ true = h in cc)

-- where it did not attach nothing changed
pub lawful_if : {C P : Type 0} (carrier_stands : C → Trace link.Entry → Type 0) (carrier_left : C → List ℕ) (carrier_condition : C → LinkState) (post_stands : P → Trace link.Entry → Type 0) (post_left : P → List (List ℕ)) (post_condition : P → LinkState) (old now : Kept C P) (role : Role) (result : Bool) (act : Act)
    → (e : (t : Trace Entry) × EndStands carrier_stands carrier_left carrier_condition post_stands post_left post_condition old role t) → (result ≡ true → EndStands carrier_stands carrier_left carrier_condition post_stands post_left post_condition now role (e.0 ▷ Own act)) → (result ≡ false → now ≡ old)
    → (t : Trace Entry) × EndStands carrier_stands carrier_left carrier_condition post_stands post_left post_condition now role t
lawful_if carrier_stands carrier_left carrier_condition post_stands post_left post_condition old now role true act e new same = (e.0 ▷ Own act, new refl)
lawful_if carrier_stands carrier_left carrier_condition post_stands post_left post_condition old now role false act e new same = (e.0, subst (λ k. EndStands carrier_stands carrier_left carrier_condition post_stands post_left post_condition k role e.0) (sym (same refl)) e.1)
