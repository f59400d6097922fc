use Rattle.std.proofs.Common.{[], refl}
use Rattle.mt_base.specs.OutView.{spot}
use Rattle.udp1_core.proofs.RunLemmas.{end_short}
use Rattle.udp1_core.proofs.elements.ElementWriterFlagWriter.end.Goals as goal

pub returns-clause-wrote : goal.returns-clause-wrote
returns-clause-wrote c flags h = c.end.ensures.all flags (spot c.args.out.now).before [] h refl

pub returns-clause-no_room : goal.returns-clause-no_room
returns-clause-no_room c flags h =
    end_short c.args.self.now.runs flags (spot c.args.out.now) (spot c.end.new.out) c.end.result h c.end.ensures.written
