use Rattle.std.proofs.Common.{◌≡◌, ◌-◌, ◌≤◌, length, reverse, slice_get}
use Rattle.ack_vector.specs.Elements.{flags_of}
use Rattle.ack_vector.proofs.lookup.told.Given as goal

-- the flag is the one `after` places before the last of the elements that are left
abbrev pub invariant-loop-element : goal.invariant-loop-element
invariant-loop-element l =
    (l.number ≤ l.last)
    × (slice_get (reverse (flags_of l.elements)) (l.last - l.number)
    ≡ slice_get (reverse (flags_of l.rest)) l.after)

abbrev pub decreases-loop-element : goal.decreases-loop-element
decreases-loop-element l = length l.rest
