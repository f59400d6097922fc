use Rattle.std.proofs.Common.{◌≡◌, ◌+◌, ◌&&◌, is_some, sym, ap, ◌∙◌, subst}
use Rattle.mt_windows.specs.Sending.{passed_over, may_cut}
use Rattle.mt_windows.specs.SendingView.{Sends, limits}
use Rattle.carrier.specs.Due.{may_send}
use Rattle.link_machine.specs.SenderView.{Sender, layout_out}
use Rattle.link_machine.proofs.Sendings.{there_if, or_left, or_right}
use Rattle.link_machine.proofs.sender.Sender.is_ready.Goals as goal

pub returns-then-is_some : goal.returns-then-is_some
returns-then-is_some g c delay peer acts told timer h =
    let own = c.args.self.now.config.own in
    let there : c.is_some.result ≡ is_some (passed_over limits acts) && may_send (layout_out g.L.WireLayout.wire c.args.self.now delay peer) acts =
    c.is_some.ensures ∙ ap is_some (c.again.ensures.part delay peer acts told timer h (λ e. absurd (cc)))
    ∙ there_if (may_send (layout_out g.L.WireLayout.wire c.args.self.now delay peer) acts) (λ p. own + p) (passed_over limits acts) in
    or_left _ _ _ there c.if-is_some.true

pub returns-else-is_some : goal.returns-else-is_some
returns-else-is_some g c delay peer acts told timer h =
    let own = c.args.self.now.config.own in
    let there : c.is_some.result ≡ is_some (passed_over limits acts) && may_send (layout_out g.L.WireLayout.wire c.args.self.now delay peer) acts =
    c.is_some.ensures ∙ ap is_some (c.again.ensures.part delay peer acts told timer h (λ e. absurd (cc)))
    ∙ there_if (may_send (layout_out g.L.WireLayout.wire c.args.self.now delay peer) acts) (λ p. own + p) (passed_over limits acts) in
    let now = subst (λ w. Sends w own acts) (ap (λ (s : Sender). s.outbox) (sym c.self.view_is)) h.sends in
    or_right _ _ _ _ there c.if-is_some.false
    (c.may_cut.ensures.history own acts now ∙ ap (may_cut limits own acts) (ap (λ (s : Sender). s.peer_window) c.self.view_is ∙ h.window_is))
