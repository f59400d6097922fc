use Rattle.std.proofs.Common.{ℕ, ◌+◌, ◌≤◌, length}
use Rattle.mt_base.specs.Trace.{Trace}
use Rattle.coded_vector.specs.CodedBytes.{flags_of}
use Rattle.mt_windows.specs.Sending.{Act}
use Rattle.mt_windows.specs.SendingView.{Sends, queued_of}
use Rattle.carrier.specs.Layout.{From, tells}
use Rattle.udp2_core.specs.SettleView.{Settles}
use Rattle.udp2_core.proofs.Tellings.{taken_below}
use Rattle.udp2_core.proofs.settle.settle_flags.Given as goal

abbrev pub invariant-loop-offset : goal.invariant-loop-offset
invariant-loop-offset l = record {
  queued : queued_of l.window ≤ queued_of l.fn.window;
  settles : (first : ℕ) (acts : Trace Act) → Sends l.fn.window first acts → Settles first l.settled l.window acts (taken_below first (tells (From l.base (flags_of l.coded))) (l.base + length l.yielded) acts);
}
