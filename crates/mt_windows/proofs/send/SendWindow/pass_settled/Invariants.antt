use Rattle.std.proofs.Common.{◌≡◌, ◌-◌, ℕ, Bool, List}
use Rattle.mt_windows.specs.SendingView.{Flying, IsRebased, queued_of}
use Rattle.mt_windows.proofs.send.SendWindow.pass_settled.Given as goal

abbrev pub invariant-loop-self : goal.invariant-loop-self
invariant-loop-self g l = record {
  same : IsRebased l.fn.self l.self;
  flying : (bytes : ℕ → List ℕ) (is_open : ℕ → Bool) (earliest latest : ℕ → ℕ) → Flying l.fn.self.flights l.fn.self.base bytes is_open earliest latest → Flying l.self.flights l.self.base bytes is_open earliest latest;
  queued : queued_of l.self ≡ queued_of l.fn.self;
}

abbrev pub decreases-loop-self : goal.decreases-loop-self
decreases-loop-self g l = l.self.cut - l.self.base
