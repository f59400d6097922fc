use Rattle.std.proofs.Common.{◌≡◌, ◌+◌, ◌||◌, ◌&&◌, true, false, cond, ltb, leb, is_some, unwrap_or, sym, ap, ◌∙◌}
use Rattle.mt_windows.specs.Sending.{may_cut, passed_over, lowest_or_next}
use Rattle.mt_windows.specs.SendingView.{limits}
use Rattle.carrier.specs.Sending.{Timer, expires}
use Rattle.carrier.specs.Due.{may_send}
use Rattle.carrier.specs.declared.limits.TheConstants.{EXPIRIES}
use Rattle.link_machine.specs.declared.choice.Choice.{Choice}
use Rattle.link_machine.specs.declared.choice.Choice.TheVariants.{Silent, Again, Fresh, Telling}
use Rattle.link_machine.specs.Wire.{layout_of}
use Rattle.link_machine.specs.SenderView.{layout_out, first_choice, timer_at, is_ended}
use Rattle.link_machine.proofs.Sendings.{over_after, choices, and_middle}
use Rattle.link_machine.proofs.sender.Sender.choose.Goals as goal

pub returns-then-is_closed-2-clause-choice : goal.returns-then-is_closed-2-clause-choice
returns-then-is_closed-2-clause-choice g c delay peer acts told timer h =
    let layout = layout_out g.L.WireLayout.wire c.args.self.now delay peer in
    let counted = c.count_expiry-expired.ensures.expires delay peer acts told timer h in
    let ended : true ≡ is_ended layout timer acts c.args.at =
    c.if-is_closed-2.ensures.value
    ∙ over_after _ timer.expiries _ _ c.count_expiry-expired.ensures.expiries (ap (λ (x : Timer). x.expiries) h.timer_is) c.if-is_closed.ensures.value
    ∙ ap (λ b. ltb EXPIRIES timer.expiries || (b && leb EXPIRIES timer.expiries)) counted in
    let new : Choice = cond (may_cut limits layout.own acts told) Fresh Telling in
    let other : Choice =
    cond (expires layout timer acts c.args.at && may_send layout acts) (Again (layout.own + lowest_or_next limits acts))
    (cond (is_some (passed_over limits acts) && may_send layout acts) (Again (layout.own + unwrap_or (passed_over limits acts) 0)) new) in
    ap (λ b. cond b Silent other) ended

pub returns-clause-choice : goal.returns-clause-choice
returns-clause-choice g c delay peer acts told timer h =
    let layout = layout_out g.L.WireLayout.wire c.args.self.now delay peer in
    let mid = c.count_expiry-expired.new.self in
    let counted = c.count_expiry-expired.ensures.expires delay peer acts told timer h in
    let going : false ≡ is_ended layout timer acts c.args.at =
    c.if-is_closed-2.ensures.value
    ∙ over_after _ timer.expiries _ _ c.count_expiry-expired.ensures.expiries (ap (λ (x : Timer). x.expiries) h.timer_is) c.if-is_closed.ensures.value
    ∙ ap (λ b. ltb EXPIRIES timer.expiries || (b && leb EXPIRIES timer.expiries)) counted in
    let new : Choice = cond (may_cut limits layout.own acts told) Fresh Telling in
    let other : Choice =
    cond (expires layout timer acts c.args.at && may_send layout acts) (Again (layout.own + lowest_or_next limits acts))
    (cond (is_some (passed_over limits acts) && may_send layout acts) (Again (layout.own + unwrap_or (passed_over limits acts) 0)) new) in
    c.first_of.ensures.choice delay peer acts told (timer_at layout acts timer c.args.at) (c.count_expiry-expired.ensures.stands delay peer acts told timer h)
    (λ e. and_middle _ _ _ (sym counted ∙ e))
    ∙ ap (λ o. first_choice (layout_of g.L.WireLayout.wire o.wait delay o.own peer) acts told c.count_expiry-expired.result) c.count_expiry-expired.ensures.config
    ∙ ap (first_choice layout acts told) counted
    ∙ choices (expires layout timer acts c.args.at) (may_send layout acts) layout.own (lowest_or_next limits acts) (passed_over limits acts) new
    ∙ ap (λ b. cond b Silent other) going
