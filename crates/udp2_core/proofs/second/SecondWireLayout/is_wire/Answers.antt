use Rattle.udp2_core.proofs.SecondWireLaw.{second_is_wire}
use Rattle.udp2_core.proofs.second.SecondWireLayout.is_wire.Goals as goal

pub returns : goal.returns
returns c = second_is_wire
