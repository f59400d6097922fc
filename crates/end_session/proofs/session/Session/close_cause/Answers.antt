use Rattle.std.proofs.Common.{sym, ap, ◌∙◌}
use Rattle.soft_sync.specs.Words.{inward}
use Rattle.end_session.specs.Store.{Store}
use Rattle.end_session.proofs.DataHeard.{close_found}
use Rattle.end_session.proofs.session.Session.close_cause.Goals as goal

pub returns-clause-found : goal.returns-clause-found
returns-clause-found c t gone st =
    close_found c.args.self.now t gone c.args.id c.inward.result c.is_moved_whole.result c.channel_cause.result (sym (ap (λ (s : Store). s.is_ready) c.self.view_is) ∙ c.if-not-self.false)
    (c.inward.ensures ∙ ap (λ (s : Store). inward c.args.id s.paths) c.self.view_is) c.is_moved_whole.ensures (c.channel_cause.ensures.found t gone st) st
