use Rattle.std.proofs.Common.{sym, ◌∙◌}
use Rattle.endpoint.proofs.Idle.{where_loud, where_silent}
use Rattle.endpoint.proofs.silence.silence_once.Goals as goal

pub returns-then-not-is_silent : goal.returns-then-not-is_silent
returns-then-not-is_silent c role p gone i =
    where_loud role c.args.kind c.args.expiries p gone c.fall_silent.new.session (sym c.if-not-is_silent.true ∙ c.is_silent.ensures p.acts gone i.stands) (c.fall_silent.ensures role p gone i)

pub returns-else-not-is_silent : goal.returns-else-not-is_silent
returns-else-not-is_silent c role p gone i =
    where_silent role c.args.kind c.args.expiries p gone c.args.session.now (sym c.if-not-is_silent.false ∙ c.is_silent.ensures p.acts gone i.stands) i
