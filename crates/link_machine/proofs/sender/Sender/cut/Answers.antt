use Rattle.std.proofs.Common.{sym, subst}
use Rattle.link_machine.specs.SenderView.{Speaks, layout_out, timer_begun}
use Rattle.link_machine.proofs.sender.Sender.cut.Goals as goal

pub returns-clause-stands : goal.returns-clause-stands
returns-clause-stands g c delay peer acts told timer h =
    let begun = timer_begun (layout_out g.L.WireLayout.wire c.args.self.now delay peer) acts timer c.args.at in
    let now = subst (λ s. Speaks s acts told begun) (sym c.self.view_is) (c.begin.ensures.stands delay peer acts told timer h) in
    record { sends = c.cut.ensures.holds c.self.inside.config.own acts now.sends; window_is = now.window_is; timer_is = now.timer_is }
