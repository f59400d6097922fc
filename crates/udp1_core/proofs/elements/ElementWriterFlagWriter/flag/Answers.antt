use Rattle.mt_base.specs.OutView.{spot}
use Rattle.udp1_core.proofs.RunLemmas.{flag_short}
use Rattle.udp1_core.proofs.elements.ElementWriterFlagWriter.flag.Goals as goal

pub returns-clause-no_room : goal.returns-clause-no_room
returns-clause-no_room c flags h =
    flag_short c.args.self.now.runs flags c.args.received (spot c.args.out.now) (spot c.flag.new.out) c.flag.result h c.flag.ensures.written
