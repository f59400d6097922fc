use Rattle.std.proofs.Common.{cond, sym, ap, ◌∙◌, subst}
use Rattle.mt_windows.specs.Sending.{may_cut}
use Rattle.mt_windows.specs.SendingView.{Sends, limits}
use Rattle.carrier.specs.Due.{may_send}
use Rattle.link_machine.specs.declared.choice.Choice.{Choice}
use Rattle.link_machine.specs.declared.choice.Choice.TheVariants.{Fresh, Telling}
use Rattle.link_machine.specs.SenderView.{Sender, again_or, again_part, layout_out}
use Rattle.link_machine.proofs.Sendings.{first_by}
use Rattle.link_machine.proofs.sender.Sender.first_of.Goals as goal

pub returns-then-may_cut-clause-choice : goal.returns-then-may_cut-clause-choice
returns-then-may_cut-clause-choice g c delay peer acts told timer h waits =
    let layout = layout_out g.L.WireLayout.wire c.args.self.now delay peer in
    let own = c.args.self.now.config.own in
    let new : Choice = cond (may_cut limits own acts told) Fresh Telling in
    let now = subst (λ w. Sends w own acts) (ap (λ (s : Sender). s.outbox) (sym c.self.view_is)) h.sends in
    let may = c.may_cut.ensures.history own acts now ∙ ap (may_cut limits own acts) (ap (λ (s : Sender). s.peer_window) c.self.view_is ∙ h.window_is) in
    sym (ap (λ b. cond b Fresh Telling) (sym may ∙ c.if-may_cut.true))
    ∙ sym (ap (λ o. again_or o new) c.in_default.is) ∙ ap (λ o. again_or o new) (c.again.ensures.part delay peer acts told timer h waits)
    ∙ first_by (may_send layout acts) (again_part layout acts c.args.expired) new

pub returns-clause-choice : goal.returns-clause-choice
returns-clause-choice g c delay peer acts told timer h waits =
    let layout = layout_out g.L.WireLayout.wire c.args.self.now delay peer in
    let own = c.args.self.now.config.own in
    let new : Choice = cond (may_cut limits own acts told) Fresh Telling in
    let now = subst (λ w. Sends w own acts) (ap (λ (s : Sender). s.outbox) (sym c.self.view_is)) h.sends in
    let may = c.may_cut.ensures.history own acts now ∙ ap (may_cut limits own acts) (ap (λ (s : Sender). s.peer_window) c.self.view_is ∙ h.window_is) in
    sym (ap (λ b. cond b Fresh Telling) (sym may ∙ c.if-may_cut.false))
    ∙ sym (ap (λ o. again_or o new) c.in_default.is) ∙ ap (λ o. again_or o new) (c.again.ensures.part delay peer acts told timer h waits)
    ∙ first_by (may_send layout acts) (again_part layout acts c.args.expired) new
