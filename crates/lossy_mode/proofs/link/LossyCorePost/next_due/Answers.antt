use Rattle.std.proofs.Common.{sym, ap, ◌∙◌, subst}
use Rattle.std.specs.Prelude.{◌==◌, if◌then◌else◌}
use Rattle.udp_open.specs.Handshake as opening
use Rattle.lossy_mode.specs.LossyView.{Lossy, StandsThin}
use Rattle.lossy_mode.specs.Thin.{IsNextDue}
use Rattle.lossy_mode.proofs.Dues.{link_next, none_is}
use Rattle.lossy_mode.proofs.Steps.{agreed_at}
use Rattle.lossy_mode.proofs.link.LossyCorePost.next_due.Goals as goal

pub returns-in-Agreed : goal.returns-in-Agreed
returns-in-Agreed c t h =
    let i = c.self.inside in
    let l : Lossy = record { opening = i.opening; role = i.role; link = i.link } in
    let now = subst (λ (l : Lossy). StandsThin l t) (sym c.self.view_is) h in
    let a = agreed_at i.opening.agreement c.in-Agreed.version c.in-Agreed.peer_initial (sym c.end.ensures.value ∙ c.in-Agreed.is) in
    let none = subst (opening.IsNextDue i.opening.settings t) (none_is c.next_due-due.result c.if-is_none.ensures) (c.next_due-due.ensures t now.follows) in
    let delay = c.delay_of.ensures.value ∙ ap (λ v. if v == 1 then 200 else 50) (sym a.3) in
    subst (λ (l : Lossy). IsNextDue (l.opening).settings t c.next_due.result) c.self.view_is
    (link_next l t a.0 c.delay_of.result c.next_due.result now (sym now.follows.agreement_is ∙ a.1) none delay
    (c.next_due.ensures _ (now.holds).owes))
