use Rattle.mt_base.specs.Trace.{◌▷◌}
use Rattle.mt_endpoint.specs.Acts.{Silences}
use Rattle.end_session.specs.Standing.{Stands}
use Rattle.std.proofs.Common.{subst, ◌∙◌}
use Rattle.endpoint.specs.Answering.{answered_by}
use Rattle.endpoint.proofs.Idle.{room_silenced, silenced}
use Rattle.endpoint.proofs.silence.fall_silent.Goals as goal

pub answer_due-requires : goal.answer_due-requires
answer_due-requires c =
    let r = c.silence.ensures in
    room_silenced c.args.session.now c.silence.new.self c.args.kind c.args.expiries c.requires.paused r.stands r.same.0

pub returns : goal.returns
returns c role p gone i =
    let r = c.silence.ensures in
    let a = c.answer_due.ensures in
    let t = p.acts ▷ Silences c.args.kind c.args.expiries in
    let now = c.answer_due.new.session in
    silenced role c.args.kind c.args.expiries p gone c.args.session.now now i c.requires.attached
    (subst (λ b. Stands now (answered_by c.args.session.now.role b t) gone) r.same.1 (subst (λ x. Stands now (answered_by x c.silence.new.self.broken t) gone) r.same.0 (a.stands t gone (r.stands p.acts gone i.stands))))
    (a.same.0 ∙ r.same.0) (a.same.1 ∙ r.same.1)
