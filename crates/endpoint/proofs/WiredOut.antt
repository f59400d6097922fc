-- A link that an end has is polled.
use Rattle.std.proofs.Common.{◌≡◌, true, false, List, Option, Some, None, IfNone, IfSome, IsSomeAnd, option_map, sym, ◌∙◌}
use Rattle.mt_base.specs.declared.kinds.Kind.{Kind}
use Rattle.mt_base.specs.declared.kinds.Role.{Role}
use Rattle.mt_base.specs.Trace.{Trace}
use Rattle.carrier.specs.declared.state.LinkState.{LinkState}
use Rattle.carrier.specs.Entries as link
use Rattle.mt_endpoint.specs.Tunnels.{is_attached}
use Rattle.end_calls.specs.Calls.{Entry, acts}
use Rattle.endpoint.specs.Attached.{HasLink}

pub where_there : {L A : Type 0} (stands : L → Trace link.Entry → Type 0) (left : L → List A) (condition : L → LinkState) (kind : Kind) (unread : List A) (role : Role) (t : Trace Entry) (old new : Option L) (Then : LinkState → Type 0)
    → HasLink stands left condition kind unread role t old → IfSome old (λ o. IfNone new ⊥) → IfSome new (λ l. Then (condition l)) → is_attached kind (acts role t) ≡ true → IsSomeAnd (option_map condition new) Then
where_there stands left condition kind unread role t None new Then h there polled is = absurd (let bad : true ≡ false = sym is ∙ h.unattached in cc)
where_there stands left condition kind unread role t (Some o) None Then h there polled is = absurd there
where_there stands left condition kind unread role t (Some o) (Some l) Then h there polled is = polled
