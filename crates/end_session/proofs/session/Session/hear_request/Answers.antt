use Rattle.std.proofs.Common.{◌≡◌, None, ◌∙◌, sym, ap, subst}
use Rattle.mt_base.specs.Trace.{Trace, ◌▷◌}
use Rattle.mt_endpoint.specs.Acts.{Act, Hears, TunnelAsked}
use Rattle.mt_endpoint.specs.Faults.{main_fault}
use Rattle.end_session.specs.Causes.{why_in}
use Rattle.end_session.specs.Standing.{Gone, Stands}
use Rattle.end_session.specs.Store.{Store}
use Rattle.end_session.specs.contracts.session.Session.{the_view}
use Rattle.end_session.proofs.TunnelsHeard.{asked_lossy, asked_reliable}
use Rattle.end_session.proofs.session.Session.hear_request.Goals as goal

-- the end that it leaves, which stands for one act more
reliable_stands : (c : goal.After-ask) (t : Trace Act) (gone : Gone) → Stands c.args.self.now t gone
    → Stands (record (the_view c.self.inside) { reliable = c.ask.new.self }) (t ▷ Hears (TunnelAsked c.args.id c.args.kind c.args.cookie)) gone
reliable_stands c t gone st =
    asked_reliable (the_view c.self.inside) t gone c.args.id c.args.kind c.args.cookie c.ask.new.self c.in-Reliable.is
    (subst (λ (s : Store). main_fault s.role t (TunnelAsked c.args.id c.args.kind c.args.cookie) ≡ None) (sym c.self.view_is) (c.request_cause.ensures.found t gone c.args.id c.args.cookie st ∙ ap why_in c.in_default.is))
    c.ask.ensures (subst (λ s. Stands s t gone) (sym c.self.view_is) st)

lossy_stands : (c : goal.After-ask-in-Lossy) (t : Trace Act) (gone : Gone) → Stands c.args.self.now t gone
    → Stands (record (the_view c.self.inside) { lossy = c.ask-in-Lossy.new.self }) (t ▷ Hears (TunnelAsked c.args.id c.args.kind c.args.cookie)) gone
lossy_stands c t gone st =
    asked_lossy (the_view c.self.inside) t gone c.args.id c.args.kind c.args.cookie c.ask-in-Lossy.new.self c.in-Lossy.is
    (subst (λ (s : Store). main_fault s.role t (TunnelAsked c.args.id c.args.kind c.args.cookie) ≡ None) (sym c.self.view_is) (c.request_cause.ensures.found t gone c.args.id c.args.cookie st ∙ ap why_in c.in_default.is))
    c.ask-in-Lossy.ensures (subst (λ s. Stands s t gone) (sym c.self.view_is) st)

pub invariant_of-self : goal.invariant_of-self
invariant_of-self c =
    let w = c.self.invariant in
    ((w.0.0 ▷ Hears (TunnelAsked c.args.id c.args.kind c.args.cookie), w.0.1, reliable_stands c w.0.0 w.0.1 (subst (λ s. Stands s w.0.0 w.0.1) c.self.view_is w.0.2)), w.1)

pub invariant_of-self-in-Lossy : goal.invariant_of-self-in-Lossy
invariant_of-self-in-Lossy c =
    let w = c.self.invariant in
    ((w.0.0 ▷ Hears (TunnelAsked c.args.id c.args.kind c.args.cookie), w.0.1, lossy_stands c w.0.0 w.0.1 (subst (λ s. Stands s w.0.0 w.0.1) c.self.view_is w.0.2)), w.1)

pub returns-in-Reliable-clause-heard : goal.returns-in-Reliable-clause-heard
returns-in-Reliable-clause-heard c t gone st = (c.request_cause.ensures.found t gone c.args.id c.args.cookie st ∙ ap why_in c.in_default.is, reliable_stands c t gone st)

pub returns-in-Lossy-clause-heard : goal.returns-in-Lossy-clause-heard
returns-in-Lossy-clause-heard c t gone st = (c.request_cause.ensures.found t gone c.args.id c.args.cookie st ∙ ap why_in c.in_default.is, lossy_stands c t gone st)
