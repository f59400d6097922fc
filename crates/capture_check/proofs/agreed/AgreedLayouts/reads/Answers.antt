use Rattle.std.proofs.Common.{◌∙◌, sym}
use Rattle.capture_check.proofs.Openings.{by_no_opening, by_no_layout}
use Rattle.capture_check.specs.LayoutsSoFar.{layout_of}
use Rattle.capture_check.proofs.agreed.AgreedLayouts.reads.Goals as goal

pub returns-in-Some : goal.returns-in-Some
returns-in-Some c =
    by_no_opening c.args.datagram.now c.opening.result (layout_of c.args.self c.args.kind) c.in-Some.layout c.reads.result c.opening.ensures.only
    (sym c.is_some.ensures ∙ c.if-is_some.false) (sym c.layout.ensures ∙ c.in-Some.is) c.reads.ensures

pub returns-in-None : goal.returns-in-None
returns-in-None c =
    by_no_layout c.args.datagram.now c.opening.result (layout_of c.args.self c.args.kind) c.opening.ensures.only
    (sym c.is_some.ensures ∙ c.if-is_some.false) (sym c.layout.ensures ∙ c.in-None.is)
