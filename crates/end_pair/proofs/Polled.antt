-- An end that was polled stands for some list.
use Rattle.std.proofs.Common.{◌≡◌, ℕ, Bool, true, false, List, Option, Some, None, IsSomeAnd, refl, sym, subst}
use Rattle.mt_base.specs.declared.kinds.Role.{Role}
use Rattle.mt_base.specs.Trace.{Trace, ◌▷◌}
use Rattle.carrier.specs.declared.state.LinkState.{LinkState}
use Rattle.carrier.specs.Entries as link
use Rattle.end_calls.specs.Calls.{Entry}
use Rattle.endpoint.specs.Kept.{Kept}
use Rattle.endpoint.specs.Standing.{EndStands}

some_entry : {C P : Type 0} (carrier_stands : C → Trace link.Entry → Type 0) (carrier_left : C → List ℕ) (carrier_condition : C → LinkState) (post_stands : P → Trace link.Entry → Type 0) (post_left : P → List (List ℕ)) (post_condition : P → LinkState) (now : Kept C P) (role : Role) (t : Trace Entry) (entry : LinkState → Entry) (o : Option LinkState)
    → IsSomeAnd o (λ state. EndStands carrier_stands carrier_left carrier_condition post_stands post_left post_condition now role (t ▷ entry state)) → (u : Trace Entry) × EndStands carrier_stands carrier_left carrier_condition post_stands post_left post_condition now role u
some_entry carrier_stands carrier_left carrier_condition post_stands post_left post_condition now role t entry (Some state) e = (t ▷ entry state, e)
some_entry carrier_stands carrier_left carrier_condition post_stands post_left post_condition now role t entry None e = absurd e

pub still_some : {C P : Type 0} (carrier_stands : C → Trace link.Entry → Type 0) (carrier_left : C → List ℕ) (carrier_condition : C → LinkState) (post_stands : P → Trace link.Entry → Type 0) (post_left : P → List (List ℕ)) (post_condition : P → LinkState) (old now : Kept C P) (role : Role) (t : Trace Entry) (attached : Bool) (entry : LinkState → Entry) (o : Option LinkState)
    → EndStands carrier_stands carrier_left carrier_condition post_stands post_left post_condition old role t
    → (attached ≡ true → IsSomeAnd o (λ state. EndStands carrier_stands carrier_left carrier_condition post_stands post_left post_condition now role (t ▷ entry state))) → (attached ≡ false → now ≡ old)
    → (u : Trace Entry) × EndStands carrier_stands carrier_left carrier_condition post_stands post_left post_condition now role u
still_some carrier_stands carrier_left carrier_condition post_stands post_left post_condition old now role t true entry o e polled none = some_entry carrier_stands carrier_left carrier_condition post_stands post_left post_condition now role t entry o (polled refl)
still_some carrier_stands carrier_left carrier_condition post_stands post_left post_condition old now role t false entry o e polled none = (t, subst (λ k. EndStands carrier_stands carrier_left carrier_condition post_stands post_left post_condition k role t) (sym (none refl)) e)
