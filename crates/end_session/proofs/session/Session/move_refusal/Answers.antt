use Rattle.std.proofs.Common.{sym, ap, ◌∙◌}
use Rattle.soft_sync.specs.Words.{why_not}
use Rattle.end_calls.specs.declared.refusal.MoveRefusal.TheVariants as move
use Rattle.end_calls.specs.Refusing.{because}
use Rattle.end_session.specs.Store.{Store}
use Rattle.end_session.proofs.ChannelsMoved.{before_is}
use Rattle.end_session.proofs.session.Session.move_refusal.Goals as goal

pub returns-in-Some-refusal : goal.returns-in-Some-refusal
returns-in-Some-refusal c t gone st =
    let s = c.args.self.now in
    let whole = sym (ap (λ (s : Store). s.broken) c.self.view_is) ∙ c.in_default.is in
    let found = ap (λ (s : Store). why_not c.args.reliable.now c.args.lossy.now s.paths) (sym c.self.view_is) ∙ sym c.refusal.ensures ∙ c.in-Some-refusal.is in
    sym (before_is s t gone c.args.reliable.now c.args.lossy.now c.requires st whole ∙ ap (because move.Sync) found)

pub returns : goal.returns
returns c t gone st =
    let s = c.args.self.now in
    let whole = sym (ap (λ (s : Store). s.broken) c.self.view_is) ∙ c.in_default.is in
    let found = ap (λ (s : Store). why_not c.args.reliable.now c.args.lossy.now s.paths) (sym c.self.view_is) ∙ sym c.refusal.ensures ∙ c.in_default-refusal.is in
    sym (before_is s t gone c.args.reliable.now c.args.lossy.now c.requires st whole ∙ ap (because move.Sync) found)
