use Rattle.std.proofs.Common.{None, [], length, unwrap_or, ap, sym, ◌∙◌, arith, length-set}
use Rattle.mt_windows.specs.declared.flight.Flight.{Flight}
use Rattle.mt_windows.specs.FlightView.{flight_at}
use Rattle.mt_windows.proofs.InFlight.{bytes_set}
use Rattle.mt_windows.proofs.Rings.{missing_flight}
use Rattle.mt_windows.proofs.flights.Flights.fill.Goals as goal

pub overflow_sub-self : goal.overflow_sub-self
overflow_sub-self c =
    let is = c.size-before.ensures ∙ ap (λ (f : Flight). length (unwrap_or f.slot [])) (c.get.ensures ∙ sym (ap (λ fs. flight_at fs c.args.ahead) c.self.view_is)) in
    omega (arith, is, c.self.invariant.1, bytes_set c.self.inside.ring.items c.args.ahead (record { slot = None; earliest = 0; latest = 0 }) (omega (arith, c.requires.there, ap length c.self.view_is)))

pub unreachable-requires : goal.unreachable-requires
unreachable-requires c = missing_flight c.self.inside.ring.items c.args.ahead c.get_mut.result (omega (arith, c.requires.there, ap length c.self.view_is)) c.get_mut.ensures.value c.in_default.is

pub invariant_of-self : goal.invariant_of-self
invariant_of-self c =
    let is = c.size-before.ensures ∙ ap (λ (f : Flight). length (unwrap_or f.slot [])) (c.get.ensures ∙ sym (ap (λ fs. flight_at fs c.args.ahead) c.self.view_is)) in
    let later : Flight = record { slot = c.fill.new.self; earliest = c.args.transmission; latest = c.args.transmission } in
    let size = ap (λ p. length (unwrap_or p [])) c.fill.ensures in
    let none = bytes_set c.self.inside.ring.items c.args.ahead (record { slot = None; earliest = 0; latest = 0 }) (omega (arith, c.requires.there, ap length c.self.view_is)) in (
      c.self.invariant.0 ∙ sym (length-set c.self.inside.ring.items c.args.ahead later),
      omega (arith, is, size, none, c.self.invariant.1, bytes_set c.self.inside.ring.items c.args.ahead later (omega (arith, c.requires.there, ap length c.self.view_is))),
    )
