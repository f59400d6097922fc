use Rattle.std.proofs.Common.{◌≡◌, IfSome, sym, ap, subst, ◌∙◌}
use Rattle.soft_sync.specs.Exchanges.{giving, with_answer}
use Rattle.soft_sync.specs.Words.{Words}
use Rattle.end_session.proofs.AnswersHeard.{begun, may_lossy, may_reliable}
use Rattle.end_session.proofs.hearing_moves.take_answer.Goals as goal

pub got-requires-clause-may : goal.got-requires-clause-may
got-requires-clause-may c e =
    let old = c.args.paths.now in
    let number = c.in-Some.number in
    let may = begun old.made number c.args.named c.requires (sym c.answer_begin.ensures.oldest ∙ c.in-Some.is) in
    let is = ap (λ (w : Words). w.made) (subst (λ r. IfSome r (λ n. c.answer_begin.new.self ≡ record old { made = with_answer n giving old.made })) c.in-Some.is c.answer_begin.ensures.given) in
    may_reliable old.made (c.answer_begin.new.self).made number c.args.named may is e

pub got-requires-2-clause-may : goal.got-requires-2-clause-may
got-requires-2-clause-may c e =
    let old = c.args.paths.now in
    let number = c.in-Some.number in
    let may = begun old.made number c.args.named c.requires (sym c.answer_begin.ensures.oldest ∙ c.in-Some.is) in
    let is = ap (λ (w : Words). w.made) (subst (λ r. IfSome r (λ n. c.answer_begin.new.self ≡ record old { made = with_answer n giving old.made })) c.in-Some.is c.answer_begin.ensures.given) in
    may_lossy old.made (c.answer_begin.new.self).made (c.got.new.paths).made number c.args.named may is (ap (λ (w : Words). w.made) c.got.ensures.words) e
