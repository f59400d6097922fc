use Rattle.std.proofs.Common.{length, sym, ap, subst, ◌∙◌}
use Rattle.dvc_pdus.specs.ListViews.{lists_left}
use Rattle.end_session.specs.Standing.{Stands}
use Rattle.end_session.specs.Store.{Store}
use Rattle.end_session.proofs.MovesHeard.{by_ids, too_many}
use Rattle.end_session.proofs.session.Session.moves_cause.Goals as goal

pub returns-then-requests_read-ge-REQUESTS-clause-found : goal.returns-then-requests_read-ge-REQUESTS-clause-found
returns-then-requests_read-ge-REQUESTS-clause-found c t gone flags tunnels st =
    too_many c.args.self.now t gone flags tunnels c.requests_read.result (lists_left c.args.lists) (sym (ap (λ (s : Store). s.is_ready) c.self.view_is) ∙ c.if-not-self.false)
    (sym (ap (λ (s : Store). s.role) c.self.view_is) ∙ c.in-Client.is) (c.requests_read.ensures ∙ ap (λ (s : Store). length (s.paths).read) c.self.view_is) c.if-requests_read-ge-REQUESTS.true st

pub returns-else-requests_read-ge-REQUESTS-clause-found : goal.returns-else-requests_read-ge-REQUESTS-clause-found
returns-else-requests_read-ge-REQUESTS-clause-found c t gone flags tunnels st =
    by_ids c.args.self.now t gone flags tunnels c.requests_read.result (lists_left c.args.lists) (sym (ap (λ (s : Store). s.is_ready) c.self.view_is) ∙ c.if-not-self.false)
    (sym (ap (λ (s : Store). s.role) c.self.view_is) ∙ c.in-Client.is) (c.requests_read.ensures ∙ ap (λ (s : Store). length (s.paths).read) c.self.view_is) c.if-requests_read-ge-REQUESTS.false st
    ∙ c.ids_cause.ensures.found t gone st

pub ids_cause-requires-clause-stands : goal.ids_cause-requires-clause-stands
ids_cause-requires-clause-stands c =
    let w = c.self.invariant in
    (w.0.0, w.0.1, subst (λ s. Stands s w.0.0 w.0.1) c.self.view_is w.0.2)
