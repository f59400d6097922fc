use Rattle.std.proofs.Common.{arith}
use Rattle.udp2_core.proofs.Flags.{ack_told, no_delays}
use Rattle.udp2_core.proofs.head.acknowledgement.Goals as goal

pub returns-clause-told : goal.returns-clause-told
returns-clause-told c =
    ack_told c.args.named c.low_part.result c.args.count c.max.result _ c.low_part.ensures
    c.max.ensures (no_delays _ (omega arith))
