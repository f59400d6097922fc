use Rattle.std.proofs.Common.{true, false, sym, ap, ◌∙◌}
use Rattle.mt_base.specs.declared.kinds.Kind.TheVariants.{Reliable, Lossy}
use Rattle.dvc_pdus.specs.ListViews.{types_left}
use Rattle.soft_sync.specs.Exchanges.{behind, names}
use Rattle.end_session.specs.Store.{Store}
use Rattle.end_session.proofs.AnswersHeard.{fault_by, none_awaited}
use Rattle.end_session.proofs.session.Session.answer_cause.Goals as goal

pub returns-in_default-clause-found : goal.returns-in_default-clause-found
returns-in_default-clause-found c =
    none_awaited ((c.args.self.now).paths).made (types_left c.args.types) (ap (λ (s : Store). behind (s.paths).made) (sym c.self.view_is) ∙ sym c.awaited.ensures ∙ c.in_default.is)

pub returns-then-is_answer_to-clause-found : goal.returns-then-is_answer_to-clause-found
returns-then-is_answer_to-clause-found c =
    let number = c.in-Some.number in
    fault_by ((c.args.self.now).paths).made number c.asks.result c.asks-2.result true (types_left c.args.types) (ap (λ (s : Store). behind (s.paths).made) (sym c.self.view_is) ∙ sym c.awaited.ensures ∙ c.in-Some.is)
    (c.asks.ensures ∙ ap (λ (s : Store). names number Reliable (s.paths).made) c.self.view_is) (c.asks-2.ensures ∙ ap (λ (s : Store). names number Lossy (s.paths).made) c.self.view_is)
    (sym c.if-is_answer_to.true ∙ c.is_answer_to.ensures)

pub returns-else-is_answer_to-clause-found : goal.returns-else-is_answer_to-clause-found
returns-else-is_answer_to-clause-found c =
    let number = c.in-Some.number in
    fault_by ((c.args.self.now).paths).made number c.asks.result c.asks-2.result false (types_left c.args.types) (ap (λ (s : Store). behind (s.paths).made) (sym c.self.view_is) ∙ sym c.awaited.ensures ∙ c.in-Some.is)
    (c.asks.ensures ∙ ap (λ (s : Store). names number Reliable (s.paths).made) c.self.view_is) (c.asks-2.ensures ∙ ap (λ (s : Store). names number Lossy (s.paths).made) c.self.view_is)
    (sym c.if-is_answer_to.false ∙ c.is_answer_to.ensures)
