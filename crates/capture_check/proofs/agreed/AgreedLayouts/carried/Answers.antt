use Rattle.std.proofs.Common.{subst}
use Rattle.std.specs.Option.{option_copied}
use Rattle.capture_check.specs.TellingsSoFar.{HasJust}
use Rattle.capture_check.proofs.Asking.{carried_by_layout, carried_by_none}
use Rattle.capture_check.proofs.agreed.AgreedLayouts.carried.Goals as goal

pub returns-in-Some : goal.returns-in-Some
returns-in-Some c before are =
    carried_by_layout c.args.kind before c.args.datagram.now c.in-Some.layout (option_copied c.carried.result) (subst (HasJust c.args.kind before c.args.datagram.now) c.in-Some.is (c.layout_for.ensures before are)) c.carried.ensures

pub returns-in-None : goal.returns-in-None
returns-in-None c before are = carried_by_none c.args.kind before c.args.datagram.now (subst (HasJust c.args.kind before c.args.datagram.now) c.in-None.is (c.layout_for.ensures before are))
