use Rattle.std.proofs.Common.{◌≡◌, ◌+◌, length}
use Rattle.ack_vector.specs.Longest.{elements_of}
use Rattle.ack_vector.proofs.writer.count.Given as goal

-- the elements of the flags that are left are still to be counted
abbrev pub invariant-loop-flag : goal.invariant-loop-flag
invariant-loop-flag l =
    l.elements + length (elements_of l.rest) ≡ length (elements_of l.flags)

abbrev pub decreases-loop-flag : goal.decreases-loop-flag
decreases-loop-flag l = length l.rest
