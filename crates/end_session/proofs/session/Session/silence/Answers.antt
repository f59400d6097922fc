use Rattle.std.proofs.Common.{sym, ap, subst, ◌∙◌}
use Rattle.mt_base.specs.Trace.{Trace, ◌▷◌}
use Rattle.mt_endpoint.specs.Acts.{Act, Silences}
use Rattle.end_session.specs.OfKind.{tunnel_of}
use Rattle.end_session.specs.Standing.{Gone, Stands}
use Rattle.end_session.specs.Store.{Store}
use Rattle.end_session.specs.contracts.session.Session.{the_view}
use Rattle.end_session.proofs.TunnelsRefused.{silences}
use Rattle.end_session.proofs.session.Session.silence.Goals as goal

-- the end that it leaves, which stands for one act more
stands : (c : goal.After-set_open) (t : Trace Act) (gone : Gone) → Stands c.args.self.now t gone
    → Stands (record (the_view c.self.inside) { paths = c.set_open.new.self; reliable = c.silence.new.reliable; lossy = c.silence.new.lossy }) (t ▷ Silences c.args.kind c.args.expiries) gone
stands c t gone st =
    silences (the_view c.self.inside) t gone c.args.kind c.args.expiries c.silence.new.reliable c.silence.new.lossy c.set_open.new.self
    (ap (λ (s : Store). (tunnel_of c.args.kind s).is_attached) c.self.view_is ∙ c.requires) c.silence.ensures.reliable c.silence.ensures.lossy c.set_open.ensures (subst (λ s. Stands s t gone) (sym c.self.view_is) st)

pub returns-clause-stands : goal.returns-clause-stands
returns-clause-stands c t gone st = stands c t gone st

pub invariant_of-self : goal.invariant_of-self
invariant_of-self c =
    let w = c.self.invariant in
    ((w.0.0 ▷ Silences c.args.kind c.args.expiries, w.0.1, stands c w.0.0 w.0.1 (subst (λ s. Stands s w.0.0 w.0.1) c.self.view_is w.0.2)), w.1)
