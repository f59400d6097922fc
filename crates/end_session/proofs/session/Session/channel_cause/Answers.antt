use Rattle.std.proofs.Common.{◌≡◌, None, sym, subst}
use Rattle.std.specs.Option.{option_or}
use Rattle.mt_endpoint.specs.Faults.{late_fault, unknown_fault}
use Rattle.end_session.specs.Standing.{Stands}
use Rattle.end_session.specs.Store.{Store}
use Rattle.end_session.specs.contracts.session.Session.{the_view}
use Rattle.end_session.proofs.DataHeard.{closed_fine}
use Rattle.end_session.proofs.session.Session.channel_cause.Goals as goal

pub returns-in-Closed-clause-found : goal.returns-in-Closed-clause-found
returns-in-Closed-clause-found c t gone st =
    subst (λ (s : Store). option_or (unknown_fault s.role t c.args.id) (late_fault s.role t c.args.id c.args.is_late) ≡ None) c.self.view_is
    (closed_fine (the_view c.self.inside) t gone c.args.id c.args.is_late c.state.result c.state.ensures c.in-Closed.is (subst (λ s. Stands s t gone) (sym c.self.view_is) st))
