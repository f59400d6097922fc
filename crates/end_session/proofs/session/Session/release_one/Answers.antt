use Rattle.std.proofs.Common.{true, false, sym, subst, ◌∙◌}
use Rattle.dvc_pdus.specs.Views.{pdu_of}
use Rattle.end_session.specs.Releasing.{IsOldest}
use Rattle.end_session.specs.contracts.session.Session.{the_view}
use Rattle.end_session.proofs.LetGo.{close_went, closed_inside, closed_went, data_went, ended_oldest, fewer_oldest, fresh_still, none_went}
use Rattle.end_session.proofs.Reread.{close_is, data_is}
use Rattle.end_session.proofs.session.Session.release_one.Goals as goal

pub returns-then-is_closed-clause-went : goal.returns-then-is_closed-clause-went
returns-then-is_closed-clause-went c t gone st = closed_went c.args.self.now t gone c.args.kind c.args.id (closed_inside (the_view c.self.inside) c.args.self.now c.args.id c.state.result c.is_closed.result true c.self.view_is c.state.ensures c.is_closed.ensures c.if-is_closed.true t gone st) st

pub returns-in_default-clause-went : goal.returns-in_default-clause-went
returns-in_default-clause-went c t gone st = none_went c.args.self.now t gone c.args.kind c.args.id c.in_default.ensures.none st

pub returns-then-is_close-clause-went : goal.returns-then-is_close-clause-went
returns-then-is_close-clause-went c t gone st =
    let is = close_is c.args.id (pdu_of c.in-Some.pdu) c.in-Some.ensures.channel (sym c.is_close.ensures ∙ c.if-is_close.true) in
    let oldest = subst (λ p. IsOldest c.args.kind c.args.id p c.args.self.now) is c.in-Some.ensures.oldest in
    close_went c.args.kind c.args.id t gone c.release_close.new.self (fresh_still c.args.self.now c.release_close.new.self t c.args.id c.release_close.ensures.same.0 (closed_inside (the_view c.self.inside) c.args.self.now c.args.id c.state.result c.is_closed.result false c.self.view_is c.state.ensures c.is_closed.ensures c.if-is_closed.false t gone st))
    (c.release_close.ensures.released c.args.kind t gone c.requires.word oldest st)

pub returns-in-Ok-clause-went : goal.returns-in-Ok-clause-went
returns-in-Ok-clause-went c t gone st =
    let is = data_is c.args.id (pdu_of c.in-Some.pdu) c.in-Some.ensures.channel (sym c.is_close.ensures ∙ c.if-is_close.false) in
    data_went c.args.kind c.args.id (pdu_of c.in-Some.pdu) t gone c.release_data.new.self c.in-Ok.field-0 is.0
    (fresh_still c.args.self.now c.release_data.new.self t c.args.id c.release_data.ensures.same.0 (closed_inside (the_view c.self.inside) c.args.self.now c.args.id c.state.result c.is_closed.result false c.self.view_is c.state.ensures c.is_closed.ensures c.if-is_closed.false t gone st)) (c.in-Ok.ensures.released t gone st)

pub returns-in-Ok-clause-fewer : goal.returns-in-Ok-clause-fewer
returns-in-Ok-clause-fewer c on = fewer_oldest c.args.kind c.args.id (pdu_of c.in-Some.pdu) c.args.self.now c.release_data.new.self c.in-Some.ensures.oldest c.in-Ok.ensures.held

pub returns-in-Err-clause-ended : goal.returns-in-Err-clause-ended
returns-in-Err-clause-ended c t gone st =
    let is = data_is c.args.id (pdu_of c.in-Some.pdu) c.in-Some.ensures.channel (sym c.is_close.ensures ∙ c.if-is_close.false) in
    ended_oldest c.args.self.now c.release_data.new.self t gone c.args.kind c.args.id (pdu_of c.in-Some.pdu) (record { at = c.in-Some.at; cause = c.in-Err.cause }) c.in-Err.ensures.unchanged c.in-Some.ensures.oldest
    c.in-Some.ensures.place is.0 (closed_inside (the_view c.self.inside) c.args.self.now c.args.id c.state.result c.is_closed.result false c.self.view_is c.state.ensures c.is_closed.ensures c.if-is_closed.false t gone st) (c.in-Err.ensures.refused t gone st) c.in-Err.ensures.undropped st
