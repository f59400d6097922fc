use Rattle.std.proofs.Common.{◌≡◌}
use Rattle.mt_windows.specs.FlightView.{no_flights}
use Rattle.mt_windows.proofs.flights.Flights.new.Given as goal

abbrev pub invariant-loop-place : goal.invariant-loop-place
invariant-loop-place l = (l.ring.items ≡ no_flights l._place) × (l.ring.capacity ≡ 64)
