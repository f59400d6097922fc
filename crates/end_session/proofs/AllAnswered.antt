-- A client that answers all that it can has answered what its acts make due.
use Rattle.std.proofs.Common.{◌≡◌, Bool, true, false, cond, List, [], ◌∷◌, length, append-nil, Option, Some, None, refl, sym, ap, ◌∙◌, arith}
use Rattle.mt_base.specs.declared.kinds.Role.TheVariants.{Client}
use Rattle.mt_base.specs.Trace.{Trace, ◌▷◌}
use Rattle.soft_sync.specs.declared.kinds.Kinds.{Kinds}
use Rattle.soft_sync.specs.Exchanges.{Request, exchanges}
use Rattle.mt_endpoint.specs.Acts.{Act, Answers}
use Rattle.mt_endpoint.specs.Growing.{answer_all, answered}
use Rattle.mt_endpoint.specs.Moving.{all_told, answer_made, answer_to, may_answer, read, read_by, unanswered_in}
use Rattle.end_session.specs.AnswerDue.{due, oldest_due, with_due}
use Rattle.end_session.specs.Standing.{Gone, Stands}
use Rattle.end_session.specs.Store.{Store}
use Rattle.end_session.proofs.AnswersMade.{IsDueNow, due_now, of_client, rest_after}

-- where none is due, all are answered that can be
none_left : (t : Trace Act) (rs : List Request) → oldest_due t rs ≡ None → answer_all Client rs t ≡ t
none_left t [] h = refl
none_left t (r ∷ rs) h = by_test (may_answer Client t r.named) h where
  by_test : (b : Bool) → cond b (Some (answer_to Client t r.named)) None ≡ None → cond b (answer_all Client rs (t ▷ Answers (answer_to Client t r.named))) t ≡ t
  by_test true k = absurd (let no : Some (answer_to Client t r.named) ≡ None = k in cc)
  by_test false k = refl

pub done : (t : Trace Act) → due t ≡ None → answered Client t ≡ t
done t h = none_left t (unanswered_in (read t)) h

pub rest_read : (t : Trace Act) (named : Kinds) (r : Request) (rest : List Request) → unanswered_in (read t) ≡ r ∷ rest → unanswered_in (read (t ▷ Answers named)) ≡ rest
rest_read t named r rest h =
    let rs = all_told read_by t in
    ap (λ x. unanswered_in (exchanges x (all_told answer_made (t ▷ Answers named)))) (append-nil rs) ∙ rest_after rs (all_told answer_made t) r rest named h

-- one answer, and then the others
one_left : (t : Trace Act) (named : Kinds) → IsDueNow t named → answered Client (t ▷ Answers named) ≡ answered Client t
one_left t named d =
    ap (λ rs. answer_all Client rs (t ▷ Answers named)) (rest_read t named d.request d.rest d.is_oldest)
    ∙ ap (λ n. answer_all Client d.rest (t ▷ Answers n)) d.is_answer
    ∙ sym (ap (λ rs. answer_all Client rs t) d.is_oldest ∙ ap (λ b. cond b (answer_all Client d.rest (t ▷ Answers (answer_to Client t (d.request).named))) t) d.may)

pub others : (t : Trace Act) (o : Option Kinds) → due t ≡ o → answered Client (with_due o t) ≡ answered Client t
others t None h = refl
others t (Some named) h = one_left t named (due_now t (unanswered_in (read t)) named refl h)

-- where nothing is owed, none is due
pub none_owed : (s : Store) (t : Trace Act) (gone : Gone) → s.role ≡ Client → Stands s t gone → s.owed ≡ 0 → due t ≡ None
none_owed s t gone is st none = ap (oldest_due t) (empty (unanswered_in (read t)) (sym (of_client s t gone is st).owed_is ∙ none)) where
  empty : (rs : List Request) → length rs ≡ 0 → rs ≡ []
  empty [] h = refl
  empty (r ∷ rs) h = absurd (omega (arith, h))
