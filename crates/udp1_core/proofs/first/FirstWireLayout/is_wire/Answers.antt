use Rattle.udp1_core.proofs.FirstWireLaw.{first_is_wire}
use Rattle.udp1_core.proofs.first.FirstWireLayout.is_wire.Goals as goal

pub returns : goal.returns
returns c = first_is_wire
