use Rattle.std.proofs.Common.{◌≡◌, refl, sym, ap, subst, ◌∙◌, arith}
use Rattle.end_session.specs.AnswerDue.{due, with_due}
use Rattle.end_session.specs.Standing.{Stands}
use Rattle.end_session.specs.Store.{Store}
use Rattle.end_session.proofs.AllAnswered.{done, none_owed, others}
use Rattle.end_session.proofs.ChannelsMoved.{none_some}
use Rattle.end_session.proofs.session.Session.answer_all.Goals as goal

pub returns-then-not-answer_sync-clause-answered : goal.returns-then-not-answer_sync-clause-answered
returns-then-not-answer_sync-clause-answered c t gone st =
    let v = c.loop-turn.invariant.stands t gone st in
    let none = none_some (due v.0) (sym (c.answer_sync.ensures.due v.0 gone v.1) ∙ c.if-not-answer_sync.true) in
    let here = subst (λ o. Stands c.answer_sync.new.self (with_due o v.0) gone) none (c.answer_sync.ensures.answered v.0 gone v.1) in
    subst (λ x. Stands c.answer_sync.new.self x gone) (sym (done v.0 none) ∙ v.2) here

pub loop-turn-preserved : goal.loop-turn-preserved
loop-turn-preserved c =
    let before = c.loop-turn.invariant in
    let less = c.answer_sync.ensures.owed c.if-not-answer_sync.false in record {
      client = c.answer_sync.ensures.same.0 ∙ before.client;
      whole = c.answer_sync.ensures.same.1 ∙ before.whole;
      counted = omega (arith, less, before.counted);
      room = omega (arith, less, before.room, c.answer_sync.ensures.written);
      settled = omega (arith, before.settled, c.answer_sync.ensures.settled);
      stands = λ t gone st.
          let v = before.stands t gone st in
          (with_due (due v.0) v.0, c.answer_sync.ensures.answered v.0 gone v.1, others v.0 (due v.0) refl ∙ v.2);
    }

pub returns-clause-answered : goal.returns-clause-answered
returns-clause-answered c t gone st =
    let v = c.loop-turn.invariant.stands t gone st in
    let s = c.loop-turn.self in
    let zero : s.owed ≡ 0 = omega (arith, c.loop-turn.invariant.counted, c.loop-turn-test.false, ap (λ (s : Store). s.owed) c.self.view_is) in
    let none = none_owed s v.0 gone c.loop-turn.invariant.client v.1 zero in
    subst (λ x. Stands s x gone) (sym (done v.0 none) ∙ v.2) v.1
