use Rattle.std.proofs.Common.{◌≡◌, ◌-◌, ◌++◌, ℕ, List, length}
use Rattle.mt_windows.specs.Arrived.{Parts}
use Rattle.mt_windows.specs.ArrivedView.{Keeps, left_of}
use Rattle.mt_windows.proofs.receive.ReceiveWindow.gather.Given as goal

abbrev pub invariant-loop-self : goal.invariant-loop-self
invariant-loop-self g l = record {
  keeps : (first : ℕ) (parts : Parts) (n : ℕ) → Keeps l.fn.self first parts n → Keeps l.self first parts n;
  left : (more : List ℕ) × (left_of l.self ≡ left_of l.fn.self ++ more);
}

abbrev pub decreases-loop-self : goal.decreases-loop-self
decreases-loop-self g l = 64 - length l.self.lengths
