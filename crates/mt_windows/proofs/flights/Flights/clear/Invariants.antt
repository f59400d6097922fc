use Rattle.std.proofs.Common.{◌≡◌, length, take}
use Rattle.mt_windows.specs.FlightView.{no_flights}
use Rattle.mt_windows.proofs.flights.Flights.clear.Given as goal

abbrev pub invariant-loop-place : goal.invariant-loop-place
invariant-loop-place l = record {
  size : length l.self-inside.ring.items ≡ length l.initial.self-inside.ring.items;
  capacity : l.self-inside.ring.capacity ≡ l.initial.self-inside.ring.capacity;
  items : take l.place l.self-inside.ring.items ≡ no_flights l.place;
}
