use Rattle.std.proofs.Common.{true, false, ◌∙◌, sym, ap}
use Rattle.end_session.specs.Store.{Store}
use Rattle.end_session.proofs.TunnelsHeard.{asked_before}
use Rattle.end_session.proofs.session.Session.request_cause.Goals as goal

pub returns-then-is_some-clause-found : goal.returns-then-is_some-clause-found
returns-then-is_some-clause-found c t gone id cookie st =
    asked_before c.args.self.now.role t id c.args.kind cookie c.asked.result true (sym (ap (λ (s : Store). s.role) c.self.view_is) ∙ c.in-Client.is) (c.asked.ensures.acts t gone st) (sym c.is_some.ensures ∙ c.if-is_some.true)

pub returns-else-is_some-clause-found : goal.returns-else-is_some-clause-found
returns-else-is_some-clause-found c t gone id cookie st =
    asked_before c.args.self.now.role t id c.args.kind cookie c.asked.result false (sym (ap (λ (s : Store). s.role) c.self.view_is) ∙ c.in-Client.is) (c.asked.ensures.acts t gone st) (sym c.is_some.ensures ∙ c.if-is_some.false)
