use Rattle.std.proofs.Common.{sym, ◌∙◌}
use Rattle.endpoint.proofs.Repeated.{due_by}
use Rattle.endpoint.proofs.repeating.is_due.Goals as goal

pub returns : goal.returns
returns c t gone st =
    due_by t c.args.postings.now c.args.now c.is_over.result c.is_silent.result c.answer.result c.if-not-is_over.false c.is_over.ensures (sym c.is_some.ensures ∙ c.if-is_some.false) (c.answer.ensures.acts t gone st) (c.is_silent.ensures t gone st)
