use Rattle.std.proofs.Common.{arith}
use Rattle.udp1_packets.proofs.Theorems.{answered}
use Rattle.udp1_packets.proofs.read.read1.Goals as goal

pub returns-clause-found : goal.returns-clause-found
returns-clause-found c = (answered c.args.bytes.now _ c.packet.result (λ i. omega (arith, c.type_inv.bytes i)) c.new.ensures c.packet.ensures).found

pub returns-clause-only : goal.returns-clause-only
returns-clause-only c = (answered c.args.bytes.now _ c.packet.result (λ i. omega (arith, c.type_inv.bytes i)) c.new.ensures c.packet.ensures).only

pub returns-clause-refused : goal.returns-clause-refused
returns-clause-refused c = (answered c.args.bytes.now _ c.packet.result (λ i. omega (arith, c.type_inv.bytes i)) c.new.ensures c.packet.ensures).refused
