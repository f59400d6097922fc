use Rattle.std.proofs.Common.{◌∙◌, ap}
use Rattle.end_session.specs.Known.{Known}
use Rattle.end_session.proofs.Readings.{tunnel_stands}
use Rattle.end_session.proofs.session.Session.answer.Goals as goal

pub returns-clause-acts : goal.returns-clause-acts
returns-clause-acts c t gone st = c.answer.ensures ∙ ap (λ (k : Known). k.answer) (c.tunnel_of.ensures ∙ tunnel_stands c.args.self.now t gone c.args.kind st)
