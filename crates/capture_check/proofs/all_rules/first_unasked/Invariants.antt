use Rattle.std.proofs.Common.{take}
use Rattle.capture_check.specs.Rules.{Asking}
use Rattle.capture_check.specs.LayoutsSoFar.{AreAgreed}
use Rattle.capture_check.specs.RequestsSoFar.{AreRequests}
use Rattle.capture_check.proofs.Passing.{PassedTo}
use Rattle.capture_check.proofs.all_rules.first_unasked.Given as goal

abbrev pub invariant-loop-entry : goal.invariant-loop-entry
invariant-loop-entry l = record {
  passed : PassedTo Asking l.entries l.entry-index l.line;
  agreed : AreAgreed l.agreed (take l.entry-index l.entries);
  requests : AreRequests (take l.entry-index l.entries) l.requests;
}
