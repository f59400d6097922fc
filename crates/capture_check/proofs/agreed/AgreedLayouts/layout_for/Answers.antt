use Rattle.std.proofs.Common.{◌∙◌, sym, subst}
use Rattle.capture_check.specs.TellingsSoFar.{HasJust}
use Rattle.capture_check.proofs.Telling.{layout_of_opening, layout_of_other}
use Rattle.capture_check.proofs.agreed.AgreedLayouts.layout_for.Goals as goal

pub returns-then-is_some : goal.returns-then-is_some
returns-then-is_some c before are = layout_of_opening c.args.kind before c.args.datagram.now c.opening.result c.opening.ensures.found (sym c.is_some.ensures ∙ c.if-is_some.true)

pub returns : goal.returns
returns c before are =
    subst (HasJust c.args.kind before c.args.datagram.now) (sym c.layout.ensures)
    (layout_of_other c.args.kind before c.args.datagram.now c.opening.result _ c.opening.ensures.only (sym c.is_some.ensures ∙ c.if-is_some.false) (are c.args.kind))
