use Rattle.std.proofs.Common.{sym, ap}
use Rattle.mt_world.specs.Acts.{past, given, took}
use Rattle.mt_world.specs.Play.{refused_open}
use Rattle.mt_world.proofs.side.Side.open.Goals as goal

pub returns-in-Ok : goal.returns-in-Ok
returns-in-Ok c role t s =
    let cause = c.in-None.ensures.cause role (past role t) (given t) (took 1 t) s.end_is in
    let opened = c.in-Ok.ensures role (past role t) (given t) (took 1 t) s.end_is in
    (sym (ap refused_open cause), record { end_is = opened; sent_are = s.sent_are; received_are = s.received_are; arrived_is = s.arrived_is })
