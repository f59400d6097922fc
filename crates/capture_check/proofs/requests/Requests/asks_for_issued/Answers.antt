use Rattle.std.proofs.Common.{ap, ◌∙◌, Ok, arith}
use Rattle.capture_check.proofs.Asking.{whole_asks, more_asks_not, refusal_asks_not}
use Rattle.capture_check.proofs.requests.Requests.asks_for_issued.Goals as goal

pub returns-then-used-bytes : goal.returns-then-used-bytes
returns-then-used-bytes c before are =
    whole_asks before c.args.bytes.now c.in-Ok-Whole.value c.in-Ok-Whole.used c.read_tunnel.result c.is_issued.result (c.in-Ok-Whole.is ∙ ap Ok c.in-Ok-Whole.field-0-is)
    c.read_tunnel.ensures.found c.read_tunnel.ensures.only (omega (arith, c.if-used-bytes.true)) (c.is_issued.ensures before are)

pub returns-in-Ok-More : goal.returns-in-Ok-More
returns-in-Ok-More c before are =
    more_asks_not before c.args.bytes.now c.in-Ok-More.field-0-0 c.read_tunnel.result (c.in-Ok-More.is ∙ ap Ok c.in-Ok-More.field-0-is) c.read_tunnel.ensures.only

pub returns-in-Err : goal.returns-in-Err
returns-in-Err c before are = refusal_asks_not before c.args.bytes.now c.in-Err.field-0 c.read_tunnel.result c.in-Err.is c.read_tunnel.ensures.only
