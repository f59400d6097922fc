use Rattle.std.proofs.Common.{subst, arith}
use Rattle.mt_windows.specs.SendingView.{Sends}
use Rattle.udp2_core.proofs.Tellings.{number_told}
use Rattle.udp2_core.proofs.settle.settle_number.Goals as goal

pub returns-clause-sends : goal.returns-clause-sends
returns-clause-sends c first acts h =
    let made = c.made-made.ensures.history first acts h in
    subst (λ u. Sends c.tell_transmission.new.self first u)
    (number_told first c.args.number acts (omega (arith, made)) (omega (arith, made)))
    (c.tell_transmission.ensures.holds first acts h)
