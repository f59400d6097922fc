use Rattle.std.proofs.Common.{arith}
use Rattle.udp2_packets.proofs.Theorems.{answered}
use Rattle.udp2_packets.proofs.read.read2.Goals as goal

pub returns-clause-found : goal.returns-clause-found
returns-clause-found c = (answered c.args.datagram.now c.answer.result (λ i. omega (arith, c.type_inv.datagram i)) c.requires c.answer.ensures).found

pub returns-clause-only : goal.returns-clause-only
returns-clause-only c = (answered c.args.datagram.now c.answer.result (λ i. omega (arith, c.type_inv.datagram i)) c.requires c.answer.ensures).only

pub returns-clause-refused : goal.returns-clause-refused
returns-clause-refused c = (answered c.args.datagram.now c.answer.result (λ i. omega (arith, c.type_inv.datagram i)) c.requires c.answer.ensures).refused
