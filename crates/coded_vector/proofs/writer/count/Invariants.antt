use Rattle.std.proofs.Common.{◌≡◌, ◌+◌, length}
use Rattle.coded_vector.specs.Written.{coded_of}
use Rattle.coded_vector.proofs.writer.count.Given as goal

-- the bytes of the flags that are left are still to be counted
abbrev pub invariant-loop-flag : goal.invariant-loop-flag
invariant-loop-flag l = l.bytes + length (coded_of l.rest) ≡ length (coded_of l.flags)

abbrev pub decreases-loop-flag : goal.decreases-loop-flag
decreases-loop-flag l = length l.rest
