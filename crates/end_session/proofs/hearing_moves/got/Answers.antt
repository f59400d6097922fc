use Rattle.std.proofs.Common.{cond, ap, ◌∙◌}
use Rattle.soft_sync.specs.Exchanges.{is_given, naming, with_answer}
use Rattle.soft_sync.specs.Words.{Words}
use Rattle.end_session.proofs.AnswersHeard.{given_still}
use Rattle.end_session.proofs.hearing_moves.got.Goals as goal

pub returns-then-named-clause-given : goal.returns-then-named-clause-given
returns-then-named-clause-given c =
    let old = c.args.paths.now in
    let number = c.args.number in
    ap (λ (w : Words). is_given number w.made)
    (c.got_response.ensures.words ∙ ap (λ b. cond b (record old { made = with_answer number (naming c.args.kind) old.made }) old) (c.got_response.ensures.answer ∙ c.requires.may c.if-named.true))
    ∙ given_still number number c.args.kind old.made ∙ c.requires.given
