use Rattle.std.proofs.Common.{◌≡◌, ◌⊎◌, inl, inr, refl}
use Rattle.rdpmt_program.proofs.Rows.{ended_of, calm_store, played_to_end, either}
use Rattle.rdpmt_program.proofs.Causes.{outcome, of_usage, of_limit, of_refusable, of_unshowable, of_unreadable, of_breaking}
use Rattle.rdpmt_program.proofs.top.rdpmt.Goals as goal

pub returns-clause-done : goal.returns-clause-done
returns-clause-done g c = played_to_end (ended_of _ _ _ _ c.run-ended.result _ _ _ _ _ c.run-ended.ensures.cause c.tell.ensures)

pub returns-clause-outcome : goal.returns-clause-outcome
returns-clause-outcome g c =
    outcome c.one_answer.ensures.one (record { one = c.one_output.ensures.one; kept = c.one_output.ensures.kept }) (record { one = c.one_answer-2.ensures.one; judged = c.one_judgement.ensures.one })
    (ended_of _ _ _ _ c.run-ended.result _ _ _ _ _ c.run-ended.ensures.cause c.tell.ensures)
    (calm_store c.run-ended.result _ _ _ _ _ _ _ c.run-ended.ensures.counts c.tell.ensures)

pub returns-clause-usage : goal.returns-clause-usage
returns-clause-usage g c = λ foreign.
    either (ended_of _ _ _ _ c.run-ended.result _ _ _ _ _ c.run-ended.ensures.cause c.tell.ensures)
    (λ s. (s ≡ 1) ⊎ (s ≡ 4)) (of_usage foreign) (λ rose. inr refl)

pub returns-clause-limit : goal.returns-clause-limit
returns-clause-limit g c = λ text names long.
    either (ended_of _ _ _ _ c.run-ended.result _ _ _ _ _ c.run-ended.ensures.cause c.tell.ensures)
    (λ s. (s ≡ 11) ⊎ (s ≡ 3) ⊎ (s ≡ 4) ⊎ (s ≡ 9)) (of_limit text names long) (λ rose. inr (inr (inl refl)))

pub returns-clause-refused : goal.returns-clause-refused
returns-clause-refused g c = λ text names refusable.
    either (ended_of _ _ _ _ c.run-ended.result _ _ _ _ _ c.run-ended.ensures.cause c.tell.ensures)
    (λ s. (s ≡ 2) ⊎ (s ≡ 3) ⊎ (s ≡ 4) ⊎ (s ≡ 9)) (of_refusable c.one_answer.ensures.one text names refusable) (λ rose. inr (inr (inl refl)))

pub returns-clause-refused_show : goal.returns-clause-refused_show
returns-clause-refused_show g c = λ text names unshowable.
    either (ended_of _ _ _ _ c.run-ended.result _ _ _ _ _ c.run-ended.ensures.cause c.tell.ensures)
    (λ s. (s ≡ 2) ⊎ (s ≡ 3) ⊎ (s ≡ 4) ⊎ (s ≡ 9))
    (of_unshowable (record { one = c.one_output.ensures.one; kept = c.one_output.ensures.kept }) text names unshowable) (λ rose. inr (inr (inl refl)))

pub returns-clause-refused_capture : goal.returns-clause-refused_capture
returns-clause-refused_capture g c = λ text names unreadable.
    either (ended_of _ _ _ _ c.run-ended.result _ _ _ _ _ c.run-ended.ensures.cause c.tell.ensures)
    (λ s. (s ≡ 2) ⊎ (s ≡ 3) ⊎ (s ≡ 4) ⊎ (s ≡ 9))
    (of_unreadable (record { one = c.one_answer-2.ensures.one; judged = c.one_judgement.ensures.one }) text names unreadable) (λ rose. inr (inr (inl refl)))

pub returns-clause-broken : goal.returns-clause-broken
returns-clause-broken g c = λ text names breaking.
    either (ended_of _ _ _ _ c.run-ended.result _ _ _ _ _ c.run-ended.ensures.cause c.tell.ensures)
    (λ s. (s ≡ 8) ⊎ (s ≡ 3) ⊎ (s ≡ 4) ⊎ (s ≡ 9))
    (of_breaking (record { one = c.one_answer-2.ensures.one; judged = c.one_judgement.ensures.one }) text names breaking) (λ rose. inr (inr (inl refl)))
