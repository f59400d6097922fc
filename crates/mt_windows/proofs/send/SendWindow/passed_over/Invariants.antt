use Rattle.std.proofs.Common.{◌≡◌, ◌+◌, ◌<◌, ◌&&◌, ℕ, ltb, false, is_some}
use Rattle.mt_windows.specs.FlightView.{flight_at, slot_at}
use Rattle.mt_windows.proofs.send.SendWindow.passed_over.Given as goal

abbrev pub invariant-loop-ahead : goal.invariant-loop-ahead
invariant-loop-ahead g l =
    (j : ℕ) → j < l.ahead → is_some (slot_at l.self-inside.flights j) && ltb ((flight_at l.self-inside.flights j).latest + 1) l.self-inside.third ≡ false
