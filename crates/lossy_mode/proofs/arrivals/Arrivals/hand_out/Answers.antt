use Rattle.std.proofs.Common.{arith}
use Rattle.lossy_mode.proofs.ArrivalLemmas.{handed_out, first_short}
use Rattle.lossy_mode.proofs.arrivals.Arrivals.hand_out.Goals as goal

pub pop-requires-clause-fits : goal.pop-requires-clause-fits
pop-requires-clause-fits c = first_short c.self.inside.parts _ c.is_empty.ensures.short (omega arith)

pub returns-clause-holds : goal.returns-clause-holds
returns-clause-holds c g n h =
    handed_out _ c.args.self.now c.pop.new.self _ g n c.self.view_is h c.pop.ensures.part
