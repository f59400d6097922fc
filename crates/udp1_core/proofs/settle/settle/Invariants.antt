use Rattle.std.proofs.Common.{◌≤◌, ℕ}
use Rattle.mt_base.specs.Trace.{Trace}
use Rattle.mt_windows.specs.Sending.{Act}
use Rattle.mt_windows.specs.SendingView.{Sends, queued_of}
use Rattle.ack_vector.specs.Elements.{flags_of}
use Rattle.carrier.specs.Layout.{Upto, tells}
use Rattle.udp1_core.proofs.Tellings.{Settling}
use Rattle.udp1_core.proofs.settle.settle.Given as goal

abbrev pub invariant-loop-part : goal.invariant-loop-part
invariant-loop-part l = record {
  queued : queued_of l.window ≤ queued_of l.fn.window;
  settling : (first : ℕ) (acts : Trace Act) → Sends l.fn.window first acts → Settling l.window first l.part l.settled (tells (Upto l.named (flags_of l.elements))) acts;
}
