use Rattle.std.proofs.Common.{refl, subst, ◌∙◌}
use Rattle.dvc_pdus.specs.Views.{pdu_of}
use Rattle.end_session.specs.Standing.{Stands}
use Rattle.end_session.proofs.Pulled.{ahead_pulled, behind_pulled, behind_untaken, none_held, refused}
use Rattle.end_session.proofs.session.Session.draw_carried.Goals as goal

pub returns-in-Some-clause-drawn : goal.returns-in-Some-clause-drawn
returns-in-Some-clause-drawn c t gone place is_full at_is st =
    refused c.args.self.now c.args.self.now c.break_by.new.self c.args.kind c.args.at place is_full _ t gone c.in-Some.cause c.at.result at_is refl (c.in-Some.ensures.refused t gone c.args.bytes.now st) c.in-Some.ensures.told
    c.at.ensures c.break_by.ensures.broken st

pub returns-then-not-is_behind-clause-drawn : goal.returns-then-not-is_behind-clause-drawn
returns-then-not-is_behind-clause-drawn c t gone place is_full at_is st =
    ahead_pulled c.args.self.now c.draw_ahead.new.self c.args.kind place is_full c.args.bytes.now (pdu_of c.args.pdu.now) t gone c.requires.may (c.is_behind.ensures.ahead c.if-not-is_behind.true) (c.in_default.ensures.allowed t gone c.args.bytes.now st)
    c.draw_ahead.ensures.same.1 st (c.draw_ahead.ensures.drawn t gone place at_is st)

pub draw_behind-requires-clause-rests : goal.draw_behind-requires-clause-rests
draw_behind-requires-clause-rests c =
    let w = c.self.invariant in
    let st = subst (λ s. Stands s w.0.0 w.0.1) c.self.view_is w.0.2 in
    none_held c.args.self.now c.args.kind (pdu_of c.args.pdu.now) w.0.0 w.0.1 ((c.requires.may).rests w.0.0 w.0.1 st) (c.is_behind.ensures.behind c.if-not-is_behind.false) st

pub returns-in-Err-clause-drawn : goal.returns-in-Err-clause-drawn
returns-in-Err-clause-drawn c t gone place is_full at_is st =
    behind_untaken c.args.self.now c.draw_behind.new.self c.break_by-in-Err.new.self c.args.kind place is_full c.args.bytes.now (pdu_of c.args.pdu.now) t gone c.in-Err.untaken c.at-in-Err.result (c.in_default.ensures.allowed t gone c.args.bytes.now st)
    (c.in-Err.ensures.ended t gone place at_is st) c.at-in-Err.ensures c.break_by-in-Err.ensures.broken

pub returns-in_default-draw_behind-clause-drawn : goal.returns-in_default-draw_behind-clause-drawn
returns-in_default-draw_behind-clause-drawn c t gone place is_full at_is st =
    behind_pulled c.args.self.now c.draw_behind.new.self c.args.kind place is_full c.args.bytes.now (pdu_of c.args.pdu.now) t gone (c.in_default.ensures.allowed t gone c.args.bytes.now st) (c.in_default-draw_behind.ensures.came t gone place at_is st)
    (c.draw_behind.ensures.same.1 ∙ (c.requires.may).is_whole)
