use Rattle.std.proofs.Common.{◌≡◌, ◌&&◌, ◌||◌, Some, None, cond, leb, is_some, false, sym, ap, ◌∙◌}
use Rattle.mt_windows.specs.Sending.{lowest}
use Rattle.mt_windows.specs.SendingView.{limits}
use Rattle.carrier.specs.Sending.{expiry}
use Rattle.carrier.specs.Due.{may_send}
use Rattle.carrier.specs.declared.limits.TheConstants.{EXPIRIES}
use Rattle.link_machine.specs.SenderView.{layout_out}
use Rattle.link_machine.proofs.Sendings.{and_both}
use Rattle.link_machine.proofs.sender.Sender.next_expiry.Goals as goal
use Rattle.link_machine.proofs.sender.Sender.next_expiry.Goals.{else-is_waiting-via-then-is_waiting+else-is_expiry_used, else-is_waiting-via-else-is_waiting}

pub returns-then-is_expiry_used : goal.returns-then-is_expiry_used
returns-then-is_expiry_used g c delay peer acts told timer h =
    let layout = layout_out g.L.WireLayout.wire c.args.self.now delay peer in
    let runs = sym (c.if-is_waiting.ensures c.args.self.now.config.own acts h.sends) in
    let used = c.if-is_expiry_used.ensures delay peer acts told timer h in
    ap Some (c.expiry.ensures.exact delay peer ∙ ap (expiry layout) h.timer_is)
    ∙ ap (λ b. cond b (Some (expiry layout timer)) None) (and_both _ _ _ runs used)

pub returns : goal.returns
returns g c delay peer acts told timer h =
    let layout = layout_out g.L.WireLayout.wire c.args.self.now delay peer in
    let none : false ≡ is_some (lowest limits acts) && (may_send layout acts || leb EXPIRIES timer.expiries) =
    elim c.else-is_waiting.branch [
      | else-is_waiting-via-then-is_waiting+else-is_expiry_used w ↦ and_both _ _ _ (sym (w.if-is_waiting.ensures c.args.self.now.config.own acts h.sends)) (w.if-is_expiry_used.ensures delay peer acts told timer h)
      | else-is_waiting-via-else-is_waiting w ↦ ap (λ b. b && (may_send layout acts || leb EXPIRIES timer.expiries)) (w.if-is_waiting.ensures c.args.self.now.config.own acts h.sends)
    ] in
    ap (λ b. cond b (Some (expiry layout timer)) None) none
