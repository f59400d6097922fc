use Rattle.std.proofs.Common.{leb, sym, ap, ◌∙◌}
use Rattle.carrier.specs.Sending.{expiry}
use Rattle.link_machine.specs.SenderView.{layout_out}
use Rattle.link_machine.proofs.Sendings.{and_both}
use Rattle.link_machine.proofs.sender.Sender.expires.Goals as goal

pub returns-then-is_waiting : goal.returns-then-is_waiting
returns-then-is_waiting g c delay peer acts told timer h =
    let layout = layout_out g.L.WireLayout.wire c.args.self.now delay peer in
    and_both _ _ _ (sym (c.if-is_waiting.ensures c.args.self.now.config.own acts h.sends))
    (ap (λ n. leb n c.args.at) (c.expiry.ensures.exact delay peer ∙ ap (expiry layout) h.timer_is))
