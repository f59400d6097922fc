use Rattle.std.proofs.Common.{subst}
use Rattle.capture_check.specs.TellingsSoFar.{HasJust}
use Rattle.capture_check.proofs.Telling.{told_by_layout}
use Rattle.capture_check.proofs.agreed.AgreedLayouts.tells_what_came.Goals as goal

pub returns-in-Some-clause-kept : goal.returns-in-Some-clause-kept
returns-in-Some-clause-kept c before are held =
    told_by_layout c.args.kind before c.args.datagram.now c.args.came.now c.in-Some.layout
    (subst (HasJust c.args.kind before c.args.datagram.now) c.in-Some.is (c.layout_for.ensures before are)) (c.tells_what_came.ensures.kept held)

pub returns-in-Some-clause-broken : goal.returns-in-Some-clause-broken
returns-in-Some-clause-broken c before are fails =
    let w = c.tells_what_came.ensures.broken fails in
    (c.in-Some.layout, w.0, subst (HasJust c.args.kind before c.args.datagram.now) c.in-Some.is (c.layout_for.ensures before are), w.1, w.2)

pub returns-in-None-clause-kept : goal.returns-in-None-clause-kept
returns-in-None-clause-kept c before are held layout n here tells = absurd (subst (HasJust c.args.kind before c.args.datagram.now) c.in-None.is (c.layout_for.ensures before are) layout here)
