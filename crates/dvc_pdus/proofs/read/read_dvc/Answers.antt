use Rattle.std.proofs.Common.{arith}
use Rattle.dvc_pdus.proofs.Theorems.{answered}
use Rattle.dvc_pdus.proofs.read.read_dvc.Goals as goal

pub returns-clause-found : goal.returns-clause-found
returns-clause-found c = (answered c.args.from c.args.bytes.now _ c.pdu.result (λ i. omega (arith, c.type_inv.bytes i)) (omega arith) c.new.ensures c.pdu.ensures).found

pub returns-clause-only : goal.returns-clause-only
returns-clause-only c = (answered c.args.from c.args.bytes.now _ c.pdu.result (λ i. omega (arith, c.type_inv.bytes i)) (omega arith) c.new.ensures c.pdu.ensures).only

pub returns-clause-refused : goal.returns-clause-refused
returns-clause-refused c = (answered c.args.from c.args.bytes.now _ c.pdu.result (λ i. omega (arith, c.type_inv.bytes i)) (omega arith) c.new.ensures c.pdu.ensures).refused
