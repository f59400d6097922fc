use Rattle.std.proofs.Common.{ℕ, ◌+◌, ◌≤◌, true, replicate}
use Rattle.mt_base.specs.Trace.{Trace}
use Rattle.mt_windows.specs.Sending.{Act}
use Rattle.mt_windows.specs.SendingView.{Sends, queued_of}
use Rattle.carrier.specs.Layout.{Upto, tells}
use Rattle.udp2_core.specs.SettleView.{Settles}
use Rattle.udp2_core.proofs.Tellings.{taken_below}
use Rattle.udp2_core.proofs.settle.settle_upto.Given as goal

abbrev pub invariant-loop-number : goal.invariant-loop-number
invariant-loop-number l = record {
  queued : queued_of l.window ≤ queued_of l.fn.window;
  settles : (first : ℕ) (acts : Trace Act) → Sends l.fn.window first acts → Settles first l.settled l.window acts (taken_below first (tells (Upto l.named (replicate (l.below + 1) true))) l.number acts);
}
