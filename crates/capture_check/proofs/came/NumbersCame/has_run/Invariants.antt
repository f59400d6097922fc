use Rattle.std.proofs.Common.{◌≡◌, ◌<◌, ◌+◌, ◌%◌, ℕ, true}
use Rattle.capture_check.specs.Arrivals.{has}
use Rattle.capture_check.proofs.came.NumbersCame.has_run.Given as goal

abbrev pub invariant-loop-ahead : goal.invariant-loop-ahead
invariant-loop-ahead l = (k : ℕ) → k < l.ahead → has l.self ((l.first + k) % l.round) ≡ true
