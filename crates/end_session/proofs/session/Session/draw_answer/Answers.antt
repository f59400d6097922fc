use Rattle.mt_endpoint.specs.Acts.{CreateAnswered}
use Rattle.std.proofs.Common.{◌∙◌}
use Rattle.end_session.proofs.Pulled.{answer_pulled, refused}
use Rattle.end_session.proofs.session.Session.draw_answer.Goals as goal

pub returns-in-Ok-clause-drawn : goal.returns-in-Ok-clause-drawn
returns-in-Ok-clause-drawn c t gone place is_full at_is st =
    answer_pulled c.args.self.now c.draw_create_answer.new.self c.answer_as_client.new.self c.args.kind place is_full c.args.hr t gone c.draw_create_answer.ensures.same.0 (c.in-Ok.ensures.heard t gone place st) c.answer_as_client.ensures.answered
    (c.answer_as_client.ensures.same.1 ∙ c.draw_create_answer.ensures.same.1 ∙ (c.requires.may).is_whole)

pub returns-in-Err-clause-drawn : goal.returns-in-Err-clause-drawn
returns-in-Err-clause-drawn c t gone place is_full at_is st =
    refused c.args.self.now c.draw_create_answer.new.self c.break_by.new.self c.args.kind c.args.at place is_full (CreateAnswered c.args.hr) t gone c.in-Err.cause c.at.result at_is c.in-Err.ensures.unchanged (c.in-Err.ensures.refused t gone st)
    c.in-Err.ensures.told c.at.ensures c.break_by.ensures.broken st
