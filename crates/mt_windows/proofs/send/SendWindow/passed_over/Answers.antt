use Rattle.std.proofs.Common.{◌+◌, ◌&&◌, ltb, is_some, sym, ap, ◌∙◌, subst, arith}
use Rattle.mt_windows.specs.declared.flight.Flight.{Flight}
use Rattle.mt_windows.specs.SendingView.{Sends}
use Rattle.mt_windows.proofs.InFlight.{passed_found, passed_none}
use Rattle.mt_windows.proofs.Sendings.{both}
use Rattle.mt_windows.proofs.send.SendWindow.passed_over.Goals as goal

pub returns-then-flight-self-clause-history : goal.returns-then-flight-self-clause-history
returns-then-flight-self-clause-history g c first t h =
    let f = c.get-flight.result.now in
    let third = c.self.inside.third in
    let read = c.get-flight.ensures in
    passed_found _ first t c.loop-ahead.ahead (subst (λ w. Sends w first t) (sym c.self.view_is) h) c.loop-ahead.invariant (omega arith)
    (sym (ap (λ (x : Flight). is_some x.slot && ltb (x.latest + 1) third) read) ∙ both (is_some f.slot) f.latest third (sym c.if-is_filled.ensures) c.if-flight-self.true)

pub returns-clause-history : goal.returns-clause-history
returns-clause-history g c first t h =
    passed_none _ first t c.loop-ahead.ahead (subst (λ w. Sends w first t) (sym c.self.view_is) h) c.loop-ahead.invariant (omega arith)
