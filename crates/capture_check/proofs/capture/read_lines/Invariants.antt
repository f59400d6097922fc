use Rattle.std.proofs.Common.{length}
use Rattle.capture_check.proofs.CaptureLines.{SoFar}
use Rattle.capture_check.proofs.capture.read_lines.Given as goal

abbrev pub invariant-loop-rest : goal.invariant-loop-rest
invariant-loop-rest l = SoFar l.text l.rest l.number l.capture

abbrev pub decreases-loop-rest : goal.decreases-loop-rest
decreases-loop-rest l = length l.rest
