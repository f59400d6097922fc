use Rattle.std.proofs.Common.{ap, ◌∙◌}
use Rattle.end_session.specs.Known.{refusal_in}
use Rattle.end_session.specs.Store.{Store}
use Rattle.end_session.proofs.KnownOf.{refusal_is}
use Rattle.end_session.proofs.Readings.{tunnel_stands}
use Rattle.end_session.proofs.session.Session.refusal.Goals as goal

pub returns-clause-value : goal.returns-clause-value
returns-clause-value c =
    c.refusal.ensures ∙ ap (λ r. refusal_in r c.tunnel_of.result.now) (ap (λ (s : Store). s.role) c.self.view_is)
    ∙ ap (λ k. refusal_in c.args.self.now.role k) c.tunnel_of.ensures

pub returns-clause-acts : goal.returns-clause-acts
returns-clause-acts c t gone st =
    let role = c.args.self.now.role in
    returns-clause-value c ∙ ap (refusal_in role) (tunnel_stands c.args.self.now t gone c.args.kind st) ∙ refusal_is role c.args.kind t
