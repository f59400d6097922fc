use Rattle.std.proofs.Common.{rules, slice_get, ◌≡◌, Some, None, [], length, unwrap_or, set, ap, sym, ◌∙◌, arith, length-set}
use Rattle.std.proofs.lemmas.Option.{get_or_from_slice_get}
use Rattle.mt_windows.specs.declared.flight.Flight.{Flight}
use Rattle.mt_windows.specs.FlightView.{flight_at}
use Rattle.mt_windows.proofs.InFlight.{bytes_set}
use Rattle.mt_windows.proofs.Rings.{missing_flight}
use Rattle.mt_windows.proofs.flights.Flights.land.Goals as goal

pub overflow_sub-self : goal.overflow_sub-self
overflow_sub-self c =
    let is = c.size.ensures ∙ ap (λ (f : Flight). length (unwrap_or f.slot [])) (c.get.ensures ∙ sym (ap (λ fs. flight_at fs c.args.ahead) c.self.view_is)) in
    omega (arith, is, c.self.invariant.1, bytes_set c.self.inside.ring.items c.args.ahead (record { slot = None; earliest = 0; latest = 0 }) (omega (arith, c.requires, ap length c.self.view_is)))

pub unreachable-requires : goal.unreachable-requires
unreachable-requires c = missing_flight c.self.inside.ring.items c.args.ahead c.get_mut.result (omega (arith, c.requires, ap length c.self.view_is)) c.get_mut.ensures.value c.in_default.is

pub invariant_of-self : goal.invariant_of-self
invariant_of-self c =
    let is = c.size.ensures ∙ ap (λ (f : Flight). length (unwrap_or f.slot [])) (c.get.ensures ∙ sym (ap (λ fs. flight_at fs c.args.ahead) c.self.view_is)) in
    let later : Flight = record { slot = c.clear.new.self; earliest = c.in-Some.flight.now.earliest; latest = c.in-Some.flight.now.latest } in
    let size = ap (λ p. length (unwrap_or p [])) c.clear.ensures in (
      c.self.invariant.0 ∙ sym (length-set c.self.inside.ring.items c.args.ahead later),
      omega (arith, is, size, c.self.invariant.1, bytes_set c.self.inside.ring.items c.args.ahead later (omega (arith, c.requires, ap length c.self.view_is))),
    )

pub returns : goal.returns
returns c =
    let here : slice_get c.self.inside.ring.items c.args.ahead ≡ Some c.in-Some.flight.now = search rules in
    let found : c.in-Some.flight.now ≡ flight_at c.self.inside.ring.items c.args.ahead = sym (get_or_from_slice_get c.self.inside.ring.items c.args.ahead c.in-Some.flight.now (record { slot = None; earliest = 0; latest = 0 }) here) in
    ap (λ p. set c.self.inside.ring.items c.args.ahead (record { slot = p; earliest = c.in-Some.flight.now.earliest; latest = c.in-Some.flight.now.latest })) c.clear.ensures
    ∙ ap (λ (f : Flight). set c.self.inside.ring.items c.args.ahead (record f { slot = None })) found
    ∙ ap (λ fs. set fs c.args.ahead (record (flight_at fs c.args.ahead) { slot = None })) c.self.view_is
