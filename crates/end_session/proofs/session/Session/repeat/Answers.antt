use Rattle.std.proofs.Common.{cond, None, sym, ap, subst, ◌∙◌}
use Rattle.mt_base.specs.declared.kinds.Kind.TheVariants.{Lossy}
use Rattle.mt_base.specs.Trace.{Trace, ◌▷◌}
use Rattle.mt_endpoint.specs.Acts.{Act, Repeats}
use Rattle.end_session.specs.OfKind.{due_request, with_request}
use Rattle.end_session.specs.Outgoing.{waiting_for}
use Rattle.end_session.specs.Standing.{Gone, Stands}
use Rattle.end_session.specs.Store.{Store}
use Rattle.end_session.specs.contracts.session.Session.{the_view}
use Rattle.end_session.proofs.TunnelsAttached.{repeats}
use Rattle.end_session.proofs.session.Session.repeat.Goals as goal

pub put_request-requires : goal.put_request-requires
put_request-requires c = ap (λ (s : Store). waiting_for Lossy s.outgoing) c.self.view_is ∙ c.requires.waits

-- the end that it leaves, which stands for one act more
stands : (c : goal.After-put_request) (t : Trace Act) (gone : Gone) → Stands c.args.self.now t gone
    → Stands (record (the_view c.self.inside) { outgoing = c.put_request.new.outgoing }) (t ▷ Repeats c.args.is_full) gone
stands c t gone st =
    repeats (the_view c.self.inside) t gone c.args.is_full c.put_request.new.outgoing (ap (λ (s : Store). s.role) c.self.view_is ∙ c.requires.role)
    (ap (λ (s : Store). (s.lossy).is_attached) c.self.view_is ∙ c.requires.attached) (ap (λ (s : Store). (s.lossy).answer) c.self.view_is ∙ c.requires.unanswered)
    (c.put_request.ensures ∙ ap (λ r. with_request Lossy r c.self.inside.outgoing) (c.request_unless-request.ensures ∙ sym (ap (λ (s : Store). cond c.args.is_full None (due_request s.role s.lossy)) c.self.view_is)))
    (subst (λ s. Stands s t gone) (sym c.self.view_is) st)

pub returns-clause-stands : goal.returns-clause-stands
returns-clause-stands c t gone st = stands c t gone st

pub invariant_of-self : goal.invariant_of-self
invariant_of-self c =
    let w = c.self.invariant in
    ((w.0.0 ▷ Repeats c.args.is_full, w.0.1, stands c w.0.0 w.0.1 (subst (λ s. Stands s w.0.0 w.0.1) c.self.view_is w.0.2)), w.1)
