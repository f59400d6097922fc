use Rattle.std.proofs.Common.{take}
use Rattle.capture_check.specs.Rules.{Framing}
use Rattle.capture_check.specs.FramesSoFar.{AreStreams}
use Rattle.capture_check.proofs.Passing.{PassedTo}
use Rattle.capture_check.proofs.frames.first_unframed.Given as goal

abbrev pub invariant-loop-entry : goal.invariant-loop-entry
invariant-loop-entry l = record {
  passed : PassedTo Framing l.entries l.entry-index l.line;
  streams : AreStreams (take l.entry-index l.entries) l.streams;
}
