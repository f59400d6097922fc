use Rattle.std.proofs.Common.{[], subst}
use Rattle.play_report.specs.Tallying.{Counts}
use Rattle.mt_world.proofs.side.Side.sent.Goals as goal

pub returns : goal.returns
returns c = subst (Counts c.add_all.new.tally) c.deref.ensures.value (c.add_all.ensures [] c.new-tally.ensures)
