use Rattle.std.proofs.Common.{take}
use Rattle.capture_check.specs.Rules.{Layouts}
use Rattle.capture_check.specs.LayoutsSoFar.{AreAgreed}
use Rattle.capture_check.proofs.Passing.{PassedTo}
use Rattle.capture_check.proofs.datagrams.first_unreadable.Given as goal

abbrev pub invariant-loop-entry : goal.invariant-loop-entry
invariant-loop-entry l = record {
  passed : PassedTo Layouts l.entries l.entry-index l.line;
  agreed : AreAgreed l.agreed (take l.entry-index l.entries);
}
