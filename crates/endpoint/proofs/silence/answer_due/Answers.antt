use Rattle.std.proofs.Common.{subst}
use Rattle.end_session.specs.Standing.{Stands}
use Rattle.endpoint.proofs.Answered.{answered_whole}
use Rattle.endpoint.proofs.silence.answer_due.Goals as goal

pub returns-in-Client-clause-stands : goal.returns-in-Client-clause-stands
returns-in-Client-clause-stands c t gone st =
    let s = c.args.session.now in
    subst (λ u. Stands c.answer_all.new.self u gone) (answered_whole s.role s.broken c.broken.result t c.broken.ensures (c.if-is_some.ensures) (c.in-Client.ensures)) (c.answer_all.ensures.answered t gone st)
