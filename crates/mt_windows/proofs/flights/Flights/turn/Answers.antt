use Rattle.std.proofs.Common.{◌∙◌, ap, sym, length, drop, [], ◌∷◌, ◌++◌}
use Rattle.mt_windows.specs.declared.flight.Flight.{Flight}
use Rattle.circular_buffer.specs.Buffer.{Buffer, keep_last}
use Rattle.mt_windows.specs.FlightView.{bytes_in}
use Rattle.mt_windows.proofs.InFlight.{bytes_turned}
use Rattle.mt_windows.proofs.Rings.{turned, length_turned}
use Rattle.mt_windows.proofs.flights.Flights.turn.Goals as goal

pub invariant_of-self-2 : goal.invariant_of-self-2
invariant_of-self-2 c =
    let xs = c.self.inside.ring.items in
    let i = c.self.invariant in
    let rest = ap (λ (b : Buffer Flight). b.items) c.pop_front.ensures.items in
    let is = ap (λ (b : Buffer Flight). b.items) c.push_back.ensures.items
    ∙ ap (λ (b : Buffer Flight). keep_last b.capacity (b.items ++ c.in-Some.flight ∷ [])) c.pop_front.ensures.items
    ∙ ap (λ n. keep_last n (drop 1 xs ++ c.in-Some.flight ∷ [])) i.0
    ∙ turned xs c.in-Some.flight (sym c.pop_front.ensures.value ∙ c.in-Some.is) in (
      ap (λ (b : Buffer Flight). b.capacity) c.push_back.ensures.items ∙ ap (λ (b : Buffer Flight). b.capacity) c.pop_front.ensures.items ∙ i.0 ∙ sym (length_turned xs) ∙ sym (ap (length {A = Flight}) is),
      i.1 ∙ sym (ap bytes_in is ∙ bytes_turned xs),
    )
