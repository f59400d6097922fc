use Rattle.std.proofs.Common.{rules, slice_get, ◌≡◌, Some, None, length, set, ap, sym, ◌∙◌, refl, arith, length-set}
use Rattle.std.proofs.lemmas.Option.{get_or_from_slice_get}
use Rattle.mt_windows.specs.declared.flight.Flight.{Flight}
use Rattle.mt_windows.specs.FlightView.{flight_at}
use Rattle.mt_windows.proofs.Sendings.{bytes_kept}
use Rattle.mt_windows.proofs.Rings.{missing_flight}
use Rattle.mt_windows.proofs.flights.Flights.carry.Goals as goal

pub unreachable-requires : goal.unreachable-requires
unreachable-requires c = missing_flight c.self.inside.ring.items c.args.ahead c.get_mut.result (omega (arith, c.requires, ap length c.self.view_is)) c.get_mut.ensures.value c.in_default.is

pub invariant_of-self : goal.invariant_of-self
invariant_of-self c =
    let here : slice_get c.self.inside.ring.items c.args.ahead ≡ Some c.in-Some.flight.now = search rules in
    let found : c.in-Some.flight.now ≡ flight_at c.self.inside.ring.items c.args.ahead = sym (get_or_from_slice_get c.self.inside.ring.items c.args.ahead c.in-Some.flight.now (record { slot = None; earliest = 0; latest = 0 }) here) in
    let later : Flight = record c.in-Some.flight.now { latest = c.args.transmission } in (
      c.self.invariant.0 ∙ sym (length-set c.self.inside.ring.items c.args.ahead later),
      c.self.invariant.1 ∙ sym (bytes_kept c.self.inside.ring.items c.args.ahead c.in-Some.flight.now later (omega (arith, c.requires, ap length c.self.view_is)) found refl),
    )

pub returns : goal.returns
returns c =
    let here : slice_get c.self.inside.ring.items c.args.ahead ≡ Some c.in-Some.flight.now = search rules in
    let found : c.in-Some.flight.now ≡ flight_at c.self.inside.ring.items c.args.ahead = sym (get_or_from_slice_get c.self.inside.ring.items c.args.ahead c.in-Some.flight.now (record { slot = None; earliest = 0; latest = 0 }) here) in
    ap (λ (f : Flight). set c.self.inside.ring.items c.args.ahead (record f { latest = c.args.transmission })) found
    ∙ ap (λ fs. set fs c.args.ahead (record (flight_at fs c.args.ahead) { latest = c.args.transmission })) c.self.view_is
