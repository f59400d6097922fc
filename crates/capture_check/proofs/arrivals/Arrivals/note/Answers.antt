use Rattle.std.proofs.Common.{subst}
use Rattle.capture_check.specs.TellingsSoFar.{ShowsJustAfter}
use Rattle.capture_check.proofs.Telling.{on_ok_one, gave_entry, arrived_entry, quiet}
use Rattle.capture_check.proofs.arrivals.Arrivals.note.Goals as goal

pub returns-in-Out : goal.returns-in-Out
returns-in-Out c =
    on_ok_one c.give.result (λ is before agreed counts are.
    gave_entry before c.args.self.now c.give.new.self c.args.entry.now c.in-Out.side c.in-Out.kind c.in-Out.number c.in-Out.datagram c.shown.result are c.in-Out.is is counts
    (subst (λ d. ShowsJustAfter c.in-Out.kind before d c.shown.result) c.bytes.ensures (c.shown.ensures before agreed)))
    c.give.ensures

pub returns-in-In : goal.returns-in-In
returns-in-In c =
    on_ok_one c.arrive.result (λ is before agreed counts are.
    arrived_entry before c.args.self.now c.arrive.new.self c.args.entry.now c.in-In.side c.in-In.kind c.in-In.number are c.in-In.is is)
    c.arrive.ensures

pub returns-in_default : goal.returns-in_default
returns-in_default c before agreed counts are =
    quiet before c.args.self.now are c.args.entry.now (λ side kind number datagram. c.in_default.not-Out side kind number datagram)
    (λ side kind number. c.in_default.not-In side kind number)
