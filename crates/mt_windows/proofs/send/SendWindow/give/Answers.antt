use Rattle.std.proofs.Common.{sym, ap, subst, arith}
use Rattle.mt_windows.specs.SendingView.{Sends, queued_of}
use Rattle.mt_windows.proofs.InFlight.{gave}
use Rattle.mt_windows.proofs.send.SendWindow.give.Goals as goal

pub returns-clause-given : goal.returns-clause-given
returns-clause-given g c first t h =
    let i = c.self.invariant.sound in
    gave _ first t c.args.bytes.now _ c.append.ensures.items (subst (λ w. Sends w first t) (sym c.self.view_is) h)
    (omega (arith, i.places, i.cut_bound)) i.base_bound
    (omega (arith, c.queued-queued.ensures.value, ap queued_of c.self.view_is, c.if-queued-bytes-gt-QUEUE.false))
