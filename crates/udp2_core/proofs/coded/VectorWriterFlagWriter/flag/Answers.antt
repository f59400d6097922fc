use Rattle.mt_base.specs.OutView.{spot}
use Rattle.udp2_core.proofs.CodedLemmas.{flag_short}
use Rattle.udp2_core.proofs.coded.VectorWriterFlagWriter.flag.Goals as goal

pub returns-clause-no_room : goal.returns-clause-no_room
returns-clause-no_room c flags h =
    flag_short c.args.self.now.coded flags c.args.received (spot c.args.out.now) (spot c.flag.new.out) c.flag.result h c.flag.ensures.written
