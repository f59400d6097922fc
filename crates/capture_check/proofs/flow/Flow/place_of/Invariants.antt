use Rattle.std.proofs.Common.{◌≡◌, ◌≢◌, ◌≤◌, ◌<◌, ◌-◌, ℕ, length, false, Some, slice_get}
use Rattle.capture_check.proofs.flow.Flow.place_of.Given as goal

abbrev pub invariant-loop-place : goal.invariant-loop-place
invariant-loop-place l = record {
  behind : l.self.matched ≤ l.place;
  next : l.self.lossy ≡ false → l.place ≡ l.self.matched;
  others : (p : ℕ) → l.self.matched ≤ p → p < l.place → slice_get l.self.sent p ≢ Some l.message;
}

abbrev pub decreases-loop-place : goal.decreases-loop-place
decreases-loop-place l = length l.self.sent - l.place
