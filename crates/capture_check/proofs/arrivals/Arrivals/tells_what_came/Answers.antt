use Rattle.std.proofs.Common.{refl}
use Rattle.capture_check.proofs.Telling.{decided_rule, no_telling}
use Rattle.capture_check.proofs.arrivals.Arrivals.tells_what_came.Goals as goal

pub returns-in-Out : goal.returns-in-Out
returns-in-Out c before agreed are =
    decided_rule before c.args.self.now c.args.entry.now c.in-Out.side c.other.result c.in-Out.kind c.in-Out.number c.in-Out.datagram c.bytes.result.now c.came.result.now c.arrived.result.now c.tells_what_came.result
    are c.in-Out.is c.bytes.ensures c.other.ensures c.arrived.ensures c.came.ensures (c.tells_what_came.ensures.kept before agreed) (c.tells_what_came.ensures.broken before agreed)

pub returns-in_default : goal.returns-in_default
returns-in_default c before agreed are = (λ held. no_telling before c.args.entry.now (λ side kind number datagram. c.in_default.not-Out side kind number datagram), λ t. refl)
