use Rattle.carrier.proofs.PartsJoined.{parts_in_order}
use Rattle.carrier.proofs.laws.perfect_parts_in_order.Goals as goal

pub returns-clause-trace : goal.returns-clause-trace
returns-clause-trace c t h = parts_in_order t h
