use Rattle.std.proofs.Common.{◌≡◌, ℕ, length}
use Rattle.mt_windows.specs.Arrived.{Parts}
use Rattle.mt_windows.specs.ArrivedView.{Keeps, left_of}
use Rattle.mt_windows.proofs.receive.ReceiveWindow.pass_drained.Given as goal

abbrev pub invariant-loop-self : goal.invariant-loop-self
invariant-loop-self g l = record {
  holds : (first : ℕ) (parts : Parts) (n : ℕ) → Keeps l.fn.self first parts n → Keeps l.self first parts n;
  left : left_of l.self ≡ left_of l.fn.self;
  slots : l.self.slots ≡ l.fn.self.slots;
}

abbrev pub decreases-loop-self : goal.decreases-loop-self
decreases-loop-self g l = length l.self.lengths
