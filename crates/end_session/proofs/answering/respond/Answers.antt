use Rattle.std.proofs.Common.{length, ap, ◌∙◌}
use Rattle.soft_sync.specs.Exchanges.{naming}
use Rattle.soft_sync.specs.Words.{Words}
use Rattle.end_session.proofs.AnswersMade.{counts_same}
use Rattle.end_session.proofs.answering.respond.Goals as goal

pub returns-then-is_named-clause-count : goal.returns-then-is_named-clause-count
returns-then-is_named-clause-count c =
    ap (λ (w : Words). length w.read) c.respond.ensures ∙ counts_same c.args.number (naming c.args.kind) (c.args.paths.now).read
