use Rattle.std.proofs.Common.{take}
use Rattle.capture_check.specs.Rules.{Tellings}
use Rattle.capture_check.specs.LayoutsSoFar.{AreAgreed}
use Rattle.capture_check.specs.TellingsSoFar.{AreArrivals}
use Rattle.capture_check.proofs.Passing.{PassedTo}
use Rattle.capture_check.proofs.tellings.first_untold.Given as goal

abbrev pub invariant-loop-entry : goal.invariant-loop-entry
invariant-loop-entry l = record {
  passed : PassedTo Tellings l.entries l.entry-index l.line;
  agreed : AreAgreed l.agreed (take l.entry-index l.entries);
  arrivals : AreArrivals (take l.entry-index l.entries) l.arrivals;
}
