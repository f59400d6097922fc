use Rattle.std.proofs.Common.{◌≡◌, ◌-◌, ◌<◌, ℕ, List, true}
use Rattle.mt_windows.specs.Noted.{is_seen}
use Rattle.mt_windows.specs.NotedView.{Notes}
use Rattle.udp2_core.proofs.head.all_seen.Given as goal

abbrev pub invariant-loop-behind : goal.invariant-loop-behind
invariant-loop-behind l =
    (seen : List ℕ) → Notes l.got.seen.now seen
    → (k : ℕ) → k < l.behind → is_seen 512 seen (l.last - k) ≡ true
