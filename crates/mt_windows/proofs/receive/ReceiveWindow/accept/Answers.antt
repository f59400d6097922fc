use Rattle.std.proofs.Common.{◌-◌, true, ◌∙◌, arith}
use Rattle.mt_windows.proofs.Order.{has_from_next, receives_next, verdict_is}
use Rattle.mt_windows.proofs.receive.ReceiveWindow.accept.Goals as goal

pub returns-then-is_there-clause-verdict : goal.returns-then-is_there-clause-verdict
returns-then-is_there-clause-verdict g c first parts n h =
    let w = c.args.self.now in
    let next = c.drained-next.ensures.drained first parts n h in
    verdict_is first parts n c.args.part true (omega (arith, c.if-part-next.false, next)) (omega (arith, c.if-part-next-ge-WINDOW.false, next))
    (c.if-is_there.ensures ∙ has_from_next w first parts n c.args.part (c.args.part - c.drained-next.result) h.keeps (omega (arith, next, c.if-part-next.false, receives_next w first parts n h)))
