use Rattle.std.proofs.Common.{leb, ◌||◌, ap, ◌∙◌}
use Rattle.carrier.specs.declared.limits.TheConstants.{EXPIRIES}
use Rattle.link_machine.specs.SenderView.{Sender}
use Rattle.link_machine.proofs.sender.Sender.is_expiry_used.Goals as goal

pub returns-else-may_send : goal.returns-else-may_send
returns-else-may_send g c delay peer acts told timer h =
    let expiries = ap (λ (s : Sender). s.timer.expiries) c.self.view_is ∙ ap (λ x. x.expiries) h.timer_is in
    ap (λ n. leb EXPIRIES n) expiries ∙ ap (λ b. b || leb EXPIRIES timer.expiries) (c.if-may_send.ensures.may delay peer acts told timer h)
