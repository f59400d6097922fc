use Rattle.std.proofs.Common.{take}
use Rattle.capture_check.specs.Rules.{Messages}
use Rattle.capture_check.specs.FlowsSoFar.{AreDeliveries}
use Rattle.capture_check.proofs.Passing.{PassedTo}
use Rattle.capture_check.proofs.messages.first_unsent.Given as goal

abbrev pub invariant-loop-entry : goal.invariant-loop-entry
invariant-loop-entry l = record {
  passed : PassedTo Messages l.entries l.entry-index l.line;
  deliveries : AreDeliveries (take l.entry-index l.entries) l.deliveries;
}
