use Rattle.std.proofs.Common.{◌∙◌, ap, sym, arith}
use Rattle.std.proofs.lemmas.List.{take_all}
use Rattle.mt_windows.specs.FlightView.{bytes_in}
use Rattle.mt_windows.proofs.InFlight.{bytes_none}
use Rattle.mt_windows.proofs.flights.Flights.clear.Goals as goal

pub invariant_of-self : goal.invariant_of-self
invariant_of-self c =
    let i = c.loop-place.invariant in
    let all = take_all c.loop-place.place c.loop-place.self-inside.ring.items (omega (arith, i.size, c.loop-place-test.false, c.len-place-end.ensures.len)) in (
      i.capacity ∙ c.self.invariant.0 ∙ sym i.size,
      sym (ap bytes_in (sym all ∙ i.items) ∙ bytes_none c.loop-place.place),
    )
