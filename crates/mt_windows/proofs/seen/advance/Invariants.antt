use Rattle.std.proofs.Common.{◌≡◌, ◌≤◌, ℕ, List, length, unwrap_or}
use Rattle.mt_windows.specs.Noted.{greatest_of}
use Rattle.mt_windows.specs.NotedView.{Covers}
use Rattle.mt_windows.proofs.seen.advance.Given as goal

abbrev pub invariant-loop-passed : goal.invariant-loop-passed
invariant-loop-passed l = record {
  size : length l.recent ≡ length l.fn.recent;
  from : l.before ≤ l.passed;
  covers : (noted : List ℕ) → unwrap_or (greatest_of noted) 0 ≤ l.before → Covers l.fn.recent l.before noted → Covers l.recent l.passed noted;
}
