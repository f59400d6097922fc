use Rattle.std.proofs.Common.{sym, ap, subst, ◌∙◌}
use Rattle.mt_base.specs.declared.kinds.Kind.TheVariants.{Reliable, Lossy}
use Rattle.mt_base.specs.Trace.{Trace, ◌▷◌}
use Rattle.dvc_pdus.specs.ListViews.{types_left}
use Rattle.dvc_pdus.specs.Value.{SyncResponse}
use Rattle.soft_sync.specs.declared.kinds.Kinds.{Kinds}
use Rattle.soft_sync.specs.Exchanges.{giving, with_answer}
use Rattle.mt_endpoint.specs.Acts.{Act, Hears, Spoken}
use Rattle.end_session.specs.AnswerDue.{MayName, naming_if}
use Rattle.end_session.specs.Causes.{why_in}
use Rattle.end_session.specs.Standing.{Gone, Knows, Stands}
use Rattle.end_session.specs.contracts.session.Session.{the_view}
use Rattle.end_session.proofs.AnswersHeard.{heard, is_awaited, may_name}
use Rattle.end_session.proofs.Heard.{fine}
use Rattle.end_session.proofs.session.Session.hear_moved.Goals as goal

pub take_answer-requires : goal.take_answer-requires
take_answer-requires c =
    let w = c.self.invariant in
    let s = the_view c.self.inside in
    let kinds = types_left c.args.types in
    let st = subst (λ s. Stands s w.0.0 w.0.1) c.self.view_is w.0.2 in
    let none = fine s c.args.self.now w.0.0 (Spoken (SyncResponse kinds)) c.moved_cause.result c.self.view_is (c.moved_cause.ensures.found w.0.0 w.0.1 st) c.in_default.is in
    let a = is_awaited s w.0.0 w.0.1 kinds w.0.2 none in
    let k = subst (λ r. Knows r s w.0.0) a.is_server (w.0.2).knows in
    ((a.fine).number, (a.fine).is_behind, subst (λ n. MayName (a.fine).number n (s.paths).made) (sym c.kinds_of.ensures) (may_name s w.0.0 kinds k a.fine))

-- the end that it leaves, which stands for one act more
stands : (c : goal.After-take_answer) (t : Trace Act) (gone : Gone) → Stands c.args.self.now t gone
    → Stands (record (the_view c.self.inside) { paths = c.take_answer.new.paths }) (t ▷ Hears (Spoken (SyncResponse (types_left c.args.types)))) gone
stands c t gone st =
    let s = the_view c.self.inside in
    let kinds = types_left c.args.types in
    let none = fine s c.args.self.now t (Spoken (SyncResponse kinds)) c.moved_cause.result c.self.view_is (c.moved_cause.ensures.found t gone st) c.in_default.is in
    heard s t gone kinds c.take_answer.new.paths (subst (λ s. Stands s t gone) (sym c.self.view_is) st) none
    (λ number at. c.take_answer.ensures number at
    ∙ ap (λ (n : Kinds). record s.paths { made = naming_if n.lossy Lossy number (naming_if n.reliable Reliable number (with_answer number giving (s.paths).made)) }) c.kinds_of.ensures)

pub invariant_of-self : goal.invariant_of-self
invariant_of-self c =
    let w = c.self.invariant in
    ((w.0.0 ▷ Hears (Spoken (SyncResponse (types_left c.args.types))), w.0.1, stands c w.0.0 w.0.1 (subst (λ s. Stands s w.0.0 w.0.1) c.self.view_is w.0.2)), w.1)

pub returns-clause-heard : goal.returns-clause-heard
returns-clause-heard c t gone st = (c.moved_cause.ensures.found t gone st ∙ ap why_in c.in_default.is, stands c t gone st)
