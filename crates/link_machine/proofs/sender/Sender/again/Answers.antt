use Rattle.std.proofs.Common.{◌+◌, cond, Some, None, option_map, sym, ap, ◌∙◌, subst}
use Rattle.mt_windows.specs.Sending.{cuts, lowest, lowest_or_next, passed_over}
use Rattle.mt_windows.specs.SendingView.{Sends, limits}
use Rattle.link_machine.specs.SenderView.{Sender, again_part, layout_out}
use Rattle.link_machine.proofs.Sendings.{mapped_there}
use Rattle.link_machine.proofs.sender.Sender.again.Goals as goal

pub returns-then-not-may_send-clause-part : goal.returns-then-not-may_send-clause-part
returns-then-not-may_send-clause-part g c delay peer acts told timer h waits =
    ap (λ b. cond b (again_part (layout_out g.L.WireLayout.wire c.args.self.now delay peer) acts c.args.expired) None) (c.if-not-may_send.ensures.may delay peer acts told timer h)

pub returns-then-expired-clause-part : goal.returns-then-expired-clause-part
returns-then-expired-clause-part g c delay peer acts told timer h waits =
    let own = c.args.self.now.config.own in
    let now = subst (λ w. Sends w own acts) (ap (λ (s : Sender). s.outbox) (sym c.self.view_is)) h.sends in
    c.lowest.ensures.history own acts now ∙ mapped_there (λ p. own + p) (lowest limits acts) (cuts acts) (waits c.if-expired.true)
    ∙ sym (ap (λ b. cond b (Some (own + lowest_or_next limits acts)) (option_map (λ p. own + p) (passed_over limits acts))) c.if-expired.true)
    ∙ ap (λ b. cond b (again_part (layout_out g.L.WireLayout.wire c.args.self.now delay peer) acts c.args.expired) None) (c.if-not-may_send.ensures.may delay peer acts told timer h)

pub returns-else-expired-clause-part : goal.returns-else-expired-clause-part
returns-else-expired-clause-part g c delay peer acts told timer h waits =
    let own = c.args.self.now.config.own in
    let now = subst (λ w. Sends w own acts) (ap (λ (s : Sender). s.outbox) (sym c.self.view_is)) h.sends in
    c.passed_over.ensures.history own acts now
    ∙ sym (ap (λ b. cond b (Some (own + lowest_or_next limits acts)) (option_map (λ p. own + p) (passed_over limits acts))) c.if-expired.false)
    ∙ ap (λ b. cond b (again_part (layout_out g.L.WireLayout.wire c.args.self.now delay peer) acts c.args.expired) None) (c.if-not-may_send.ensures.may delay peer acts told timer h)
