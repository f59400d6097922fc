use Rattle.std.proofs.Common.{length}
use Rattle.capture_check.proofs.Flagged.{ToldBack}
use Rattle.capture_check.proofs.told.flagged_came.Given as goal

abbrev pub invariant-loop-element : goal.invariant-loop-element
invariant-loop-element l = ToldBack l.elements l.last l.came l.rest l.first

abbrev pub decreases-loop-element : goal.decreases-loop-element
decreases-loop-element l = length l.rest
