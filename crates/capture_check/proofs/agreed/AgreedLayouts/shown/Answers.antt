use Rattle.std.proofs.Common.{subst}
use Rattle.capture_check.specs.TellingsSoFar.{HasJust}
use Rattle.capture_check.proofs.Telling.{shown_by_layout, shown_by_none}
use Rattle.capture_check.proofs.agreed.AgreedLayouts.shown.Goals as goal

pub returns-in-Some : goal.returns-in-Some
returns-in-Some c before are =
    shown_by_layout c.args.kind before c.args.datagram.now c.in-Some.layout c.shown.result (subst (HasJust c.args.kind before c.args.datagram.now) c.in-Some.is (c.layout_for.ensures before are)) c.shown.ensures

pub returns-in-None : goal.returns-in-None
returns-in-None c before are = shown_by_none c.args.kind before c.args.datagram.now (subst (HasJust c.args.kind before c.args.datagram.now) c.in-None.is (c.layout_for.ensures before are))
