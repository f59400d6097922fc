use Rattle.std.proofs.Common.{sym, ap, subst, ◌∙◌}
use Rattle.mt_base.specs.Trace.{Trace, ◌▷◌}
use Rattle.mt_endpoint.specs.Acts.{Act, Hears, TunnelAnswered}
use Rattle.mt_endpoint.specs.Faults.{main_fault}
use Rattle.end_session.specs.Standing.{Gone, Stands}
use Rattle.end_session.specs.Store.{Store}
use Rattle.end_session.specs.contracts.session.Session.{the_view}
use Rattle.end_session.proofs.TunnelsHeard.{answered}
use Rattle.end_session.proofs.session.Session.hear_response.Goals as goal

-- the end that it leaves, which stands for one act more
stands : (c : goal.After-got_response-in-Server) (t : Trace Act) (gone : Gone) → Stands (the_view c.self.inside) t gone
    → Stands (record (the_view c.self.inside) { reliable = c.got_response.new.self; lossy = c.got_response-in-Server.new.self }) (t ▷ Hears (TunnelAnswered c.args.id c.args.hr)) gone
stands c t gone st = answered (the_view c.self.inside) t gone c.args.id c.args.hr c.got_response.new.self c.got_response-in-Server.new.self c.in-Server.is c.got_response.ensures c.got_response-in-Server.ensures st

pub invariant_of-self : goal.invariant_of-self
invariant_of-self c =
    let w = c.self.invariant in
    ((w.0.0 ▷ Hears (TunnelAnswered c.args.id c.args.hr), w.0.1, stands c w.0.0 w.0.1 w.0.2), w.1)

pub returns-in-Server-clause-heard : goal.returns-in-Server-clause-heard
returns-in-Server-clause-heard c t gone st =
    (ap (λ r. main_fault r t (TunnelAnswered c.args.id c.args.hr)) (sym (ap (λ (s : Store). s.role) c.self.view_is) ∙ c.in-Server.is), stands c t gone (subst (λ s. Stands s t gone) (sym c.self.view_is) st))
