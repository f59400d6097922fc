use Rattle.std.proofs.Common.{◌≡◌, Some, None, true, false, max, sym, ap, ap₂, ◌∙◌, subst}
use Rattle.carrier.specs.Sending.{is_over, is_closed}
use Rattle.carrier.specs.Due.{IsNextDue}
use Rattle.link_machine.specs.MachineView.{Machine, Stands, earlier, layout_at}
use Rattle.link_machine.proofs.Dues.{ready, from, never_due, due_now, due_later}
use Rattle.link_machine.proofs.machine.MachineCarrier.next_due.Goals as goal

pub returns-then-is_ready : goal.returns-then-is_ready
returns-then-is_ready g c t h =
    let i = c.self.inside in
    let m : Machine = record { moment = i.moment; sender = i.sender; receiver = i.receiver } in
    let now = subst (λ m. Stands g.L.WireLayout.wire m t) (sym c.self.view_is) h in
    let l = layout_at g.L.WireLayout.wire m in
    let going : is_closed l t ≡ false =
    ap (is_over l) (sym now.sends.timer_is) ∙ sym (c.is_closed.ensures.over i.receiver.config.delay
    i.receiver.config.peer) ∙ c.if-is_closed.false in
    let is : ready l t ≡ true = sym (c.is_ready.ensures i.receiver.config.delay i.receiver.config.peer _ _ _
    now.sends) ∙ c.if-is_ready.true in
    subst (λ m. IsNextDue (layout_at g.L.WireLayout.wire m) t (Some i.moment)) c.self.view_is
    (subst (λ k. IsNextDue l t (Some k)) (sym now.moment_is) (due_now l t going is))

pub returns-in-Some : goal.returns-in-Some
returns-in-Some g c t h =
    let i = c.self.inside in
    let m : Machine = record { moment = i.moment; sender = i.sender; receiver = i.receiver } in
    let now = subst (λ m. Stands g.L.WireLayout.wire m t) (sym c.self.view_is) h in
    let l = layout_at g.L.WireLayout.wire m in
    let going : is_closed l t ≡ false =
    ap (is_over l) (sym now.sends.timer_is) ∙ sym (c.is_closed.ensures.over i.receiver.config.delay
    i.receiver.config.peer) ∙ c.if-is_closed.false in
    let is : ready l t ≡ false = sym (c.is_ready.ensures i.receiver.config.delay i.receiver.config.peer _ _ _
    now.sends) ∙ c.if-is_ready.false in
    let first : from l t ≡ Some c.in-Some.due =
    sym (ap₂ earlier (c.next_expiry.ensures i.receiver.config.delay i.receiver.config.peer _ _ _ now.sends)
    (c.ack_deadline.ensures _ _ _ _ now.hears))
    ∙ sym c.earlier.ensures ∙ c.in-Some.is in
    subst (λ m. IsNextDue (layout_at g.L.WireLayout.wire m) t (Some c.max.result)) c.self.view_is
    (subst (λ k. IsNextDue l t (Some k)) (sym (c.max.ensures
    ∙ ap (max c.in-Some.due) now.moment_is)) (due_later l t c.in-Some.due going is first))

pub returns-in-None : goal.returns-in-None
returns-in-None g c t h =
    let i = c.self.inside in
    let m : Machine = record { moment = i.moment; sender = i.sender; receiver = i.receiver } in
    let now = subst (λ m. Stands g.L.WireLayout.wire m t) (sym c.self.view_is) h in
    let l = layout_at g.L.WireLayout.wire m in
    let is : ready l t ≡ false = sym (c.is_ready.ensures i.receiver.config.delay i.receiver.config.peer _ _ _
    now.sends) ∙ c.if-is_ready.false in
    let first : from l t ≡ None =
    sym (ap₂ earlier (c.next_expiry.ensures i.receiver.config.delay i.receiver.config.peer _ _ _ now.sends)
    (c.ack_deadline.ensures _ _ _ _ now.hears))
    ∙ sym c.earlier.ensures ∙ c.in-None.is in
    subst (λ m. IsNextDue (layout_at g.L.WireLayout.wire m) t None) c.self.view_is (never_due l t is first)
