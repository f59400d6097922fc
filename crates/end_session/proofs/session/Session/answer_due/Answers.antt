use Rattle.std.proofs.Common.{◌&&◌, Some, sym, ap, subst, ◌∙◌, arith}
use Rattle.mt_base.specs.declared.kinds.Role.TheVariants.{Client}
use Rattle.end_session.specs.Known.{is_live_in, is_settled_in}
use Rattle.end_session.specs.Standing.{Stands}
use Rattle.end_session.specs.Store.{Store}
use Rattle.end_session.specs.contracts.session.Session.{the_view}
use Rattle.end_session.proofs.AnswersMade.{at_least, both_known, due_by, none_due, of_client, unknown_first, unknown_second}
use Rattle.end_session.proofs.session.Session.answer_due.Goals as goal

pub returns-in_default-clause-due : goal.returns-in_default-clause-due
returns-in_default-clause-due c t gone st =
    let s = the_view c.self.inside in
    let k = of_client s t gone (ap (λ (s : Store). s.role) c.self.view_is ∙ c.requires) (subst (λ s. Stands s t gone) (sym c.self.view_is) st) in
    sym (none_due s t k (sym c.unanswered.ensures ∙ c.in_default.is))

pub names-reliable-requires : goal.names-reliable-requires
names-reliable-requires c = omega (arith, (at_least 0 c.in-Some.number c.self.inside.paths.read (sym c.unanswered.ensures ∙ c.in-Some.is)).1)

pub names-lossy-requires : goal.names-lossy-requires
names-lossy-requires c = omega (arith, (at_least 0 c.in-Some.number c.self.inside.paths.read (sym c.unanswered.ensures ∙ c.in-Some.is)).1)

pub returns-then-not-is_known-clause-due : goal.returns-then-not-is_known-clause-due
returns-then-not-is_known-clause-due c t gone st =
    let s = the_view c.self.inside in
    let k = of_client s t gone (ap (λ (s : Store). s.role) c.self.view_is ∙ c.requires) (subst (λ s. Stands s t gone) (sym c.self.view_is) st) in
    let a = c.names-reliable.result in
    let b = c.names-lossy.result in
    sym (
    due_by s t c.in-Some.number a b k (sym c.unanswered.ensures ∙ c.in-Some.is) c.names-reliable.ensures c.names-lossy.ensures
    ∙ unknown_first a b (is_settled_in Client s.reliable) (is_settled_in Client s.lossy) (is_live_in Client s.reliable) (is_live_in Client s.lossy) (sym c.is_known.ensures ∙ c.if-not-is_known.true)
    )

pub returns-then-not-is_known-2-clause-due : goal.returns-then-not-is_known-2-clause-due
returns-then-not-is_known-2-clause-due c t gone st =
    let s = the_view c.self.inside in
    let k = of_client s t gone (ap (λ (s : Store). s.role) c.self.view_is ∙ c.requires) (subst (λ s. Stands s t gone) (sym c.self.view_is) st) in
    let a = c.names-reliable.result in
    let b = c.names-lossy.result in
    sym (
    due_by s t c.in-Some.number a b k (sym c.unanswered.ensures ∙ c.in-Some.is) c.names-reliable.ensures c.names-lossy.ensures
    ∙ unknown_second a b (is_settled_in Client s.reliable) (is_settled_in Client s.lossy) (is_live_in Client s.reliable) (is_live_in Client s.lossy)
    (sym c.is_known.ensures ∙ c.if-not-is_known.false) (sym c.is_known-2.ensures ∙ c.if-not-is_known-2.true)
    )

pub returns-clause-due : goal.returns-clause-due
returns-clause-due c t gone st =
    let s = the_view c.self.inside in
    let k = of_client s t gone (ap (λ (s : Store). s.role) c.self.view_is ∙ c.requires) (subst (λ s. Stands s t gone) (sym c.self.view_is) st) in
    let a = c.names-reliable.result in
    let b = c.names-lossy.result in
    sym (
    due_by s t c.in-Some.number a b k (sym c.unanswered.ensures ∙ c.in-Some.is) c.names-reliable.ensures c.names-lossy.ensures
    ∙ both_known a b (is_settled_in Client s.reliable) (is_settled_in Client s.lossy) (is_live_in Client s.reliable) (is_live_in Client s.lossy)
    (sym c.is_known.ensures ∙ c.if-not-is_known.false) (sym c.is_known-2.ensures ∙ c.if-not-is_known-2.false)
    ∙ ap (λ x. Some (record { reliable = x; lossy = b && is_live_in Client s.lossy })) (sym c.carries.ensures) ∙ ap (λ x. Some (record { reliable = c.carries.result; lossy = x })) (sym c.carries-2.ensures)
    )
