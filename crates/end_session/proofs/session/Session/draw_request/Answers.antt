use Rattle.std.proofs.Common.{refl, sym, ap, ◌∙◌}
use Rattle.mt_endpoint.specs.Acts.{CreateAsked}
use Rattle.end_session.specs.Store.{Store}
use Rattle.end_session.proofs.Pulled.{judged_pulled, refused, request_pulled}
use Rattle.end_session.proofs.session.Session.draw_request.Goals as goal

pub returns-in-Server-clause-drawn : goal.returns-in-Server-clause-drawn
returns-in-Server-clause-drawn c t gone place at_is st =
    judged_pulled c.args.self.now c.judge.new.self c.args.kind place c.args.is_full c.args.id c.args.cookie.now c.judge.result t gone (sym (ap (λ (s : Store). s.role) c.self.view_is) ∙ c.in-Server.is) c.requires.may c.judge.ensures.verdict
    c.judge.ensures.same.1 st (c.judge.ensures.stands t gone place st)

pub returns-in-Err-clause-drawn : goal.returns-in-Err-clause-drawn
returns-in-Err-clause-drawn c t gone place at_is st =
    refused c.args.self.now c.args.self.now c.break_by.new.self c.args.kind c.args.at place c.args.is_full (CreateAsked c.args.id c.args.cookie.now) t gone c.in-Err.cause c.at.result at_is refl (c.in-Err.ensures.refused t gone c.args.id c.args.cookie.now st)
    c.in-Err.ensures.told c.at.ensures c.break_by.ensures.broken st

pub returns-in_default-clause-drawn : goal.returns-in_default-clause-drawn
returns-in_default-clause-drawn c t gone place at_is st =
    request_pulled c.args.self.now c.args.kind place c.args.is_full c.args.id c.args.cookie.now t gone (sym (ap (λ (s : Store). s.role) c.self.view_is) ∙ c.in-Client.is) c.requires.may (c.in_default.ensures.heard t gone place c.args.id c.args.cookie.now st) st
