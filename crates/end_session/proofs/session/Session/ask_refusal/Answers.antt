use Rattle.std.proofs.Common.{sym, ap, ◌∙◌}
use Rattle.mt_endpoint.specs.Tunnels.{asked}
use Rattle.end_calls.specs.declared.refusal.AskRefusal.TheVariants as ask
use Rattle.end_calls.specs.Refusing.{because}
use Rattle.end_session.specs.AskedView.{request_of}
use Rattle.end_session.specs.Store.{Store}
use Rattle.end_session.specs.contracts.session.Session.{the_view}
use Rattle.end_session.proofs.TunnelsAsked.{already, by_refusal, there}
use Rattle.end_session.proofs.session.Session.ask_refusal.Goals as goal

pub returns-then-is_some : goal.returns-then-is_some
returns-then-is_some c t gone st =
    already c.args.self.now.broken t c.args.kind c.args.id (sym (ap (λ (s : Store). s.broken) c.self.view_is) ∙ c.in_default.is)
    (there request_of c.asked.result (asked c.args.kind t) c.is_some.result _ c.is_some.ensures c.if-is_some.true (c.asked.ensures.acts t gone st))

pub returns-in-Some-refusal : goal.returns-in-Some-refusal
returns-in-Some-refusal c t gone st =
    ap (because ask.Issue) (sym c.in-Some-refusal.is)
    ∙ by_refusal (the_view c.self.inside) c.args.self.now t gone c.args.kind c.args.id c.asked.result c.is_some.result c.refusal.result c.self.view_is c.in_default.is c.is_some.ensures c.if-is_some.false
    (c.asked.ensures.acts t gone st) c.refusal.ensures.refused c.refusal.ensures.allowed st

pub returns : goal.returns
returns c t gone st =
    ap (because ask.Issue) (sym c.in_default-refusal.is)
    ∙ by_refusal (the_view c.self.inside) c.args.self.now t gone c.args.kind c.args.id c.asked.result c.is_some.result c.refusal.result c.self.view_is c.in_default.is c.is_some.ensures c.if-is_some.false
    (c.asked.ensures.acts t gone st) c.refusal.ensures.refused c.refusal.ensures.allowed st
