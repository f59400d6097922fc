use Rattle.std.proofs.Common.{sym, ap, subst, ◌∙◌, is_some}
use Rattle.mt_base.specs.Trace.{Trace, ◌▷◌}
use Rattle.mt_endpoint.specs.Acts.{Act, Attaches}
use Rattle.end_session.specs.Known.{refusal_in}
use Rattle.end_session.specs.OfKind.{due_request, tunnel_of, with_request}
use Rattle.end_session.specs.Outgoing.{waiting_for}
use Rattle.end_session.specs.Standing.{Gone, Stands}
use Rattle.end_session.specs.Store.{Store}
use Rattle.end_session.specs.contracts.session.Session.{the_view}
use Rattle.end_session.proofs.TunnelsAttached.{attaches}
use Rattle.end_session.proofs.session.Session.attach.Goals as goal

pub put_request-requires : goal.put_request-requires
put_request-requires c = ap (λ (s : Store). waiting_for c.args.kind s.outgoing) c.self.view_is ∙ c.requires.waits

-- the end that it leaves, which stands for one act more
stands : (c : goal.After-attach) (t : Trace Act) (gone : Gone) → Stands c.args.self.now t gone
    → Stands (record (the_view c.self.inside) { reliable = c.attach.new.reliable; lossy = c.attach.new.lossy; outgoing = c.put_request.new.outgoing }) (t ▷ Attaches c.args.kind) gone
stands c t gone st =
    attaches (the_view c.self.inside) t gone c.args.kind c.attach.new.reliable c.attach.new.lossy c.put_request.new.outgoing
    (ap (λ (s : Store). is_some (tunnel_of c.args.kind s).asked) c.self.view_is ∙ c.requires.asked) (ap (λ (s : Store). (tunnel_of c.args.kind s).is_attached) c.self.view_is ∙ c.requires.unattached)
    (ap (λ (s : Store). refusal_in s.role (tunnel_of c.args.kind s)) c.self.view_is ∙ c.requires.unrefused) c.attach.ensures.reliable c.attach.ensures.lossy
    (c.put_request.ensures ∙ ap (λ r. with_request c.args.kind r c.self.inside.outgoing) (c.create_request-request.ensures ∙ sym (ap (λ (s : Store). due_request s.role (tunnel_of c.args.kind s)) c.self.view_is)))
    (subst (λ s. Stands s t gone) (sym c.self.view_is) st)

pub returns-clause-stands : goal.returns-clause-stands
returns-clause-stands c t gone st = stands c t gone st

pub invariant_of-self : goal.invariant_of-self
invariant_of-self c =
    let w = c.self.invariant in
    ((w.0.0 ▷ Attaches c.args.kind, w.0.1, stands c w.0.0 w.0.1 (subst (λ s. Stands s w.0.0 w.0.1) c.self.view_is w.0.2)), w.1)
