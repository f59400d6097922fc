use Rattle.carrier.proofs.PerfectJoined.{bytes_in_order}
use Rattle.carrier.proofs.laws.perfect_bytes_in_order.Goals as goal

pub returns-clause-trace : goal.returns-clause-trace
returns-clause-trace c t h = bytes_in_order t h

pub returns-clause-left : goal.returns-clause-left
returns-clause-left c t h = h.in_order
