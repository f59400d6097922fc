use Rattle.std.proofs.Common.{◌≡◌, ◌≤◌, length, take, drop, ◌-◌}
use Rattle.mt_outside.specs.Told.{added}
use Rattle.mt_outside.proofs.whole.write_all.Given as goal

-- what is left is the back of the bytes, and the front before it is written
abbrev pub invariant-loop-rest : goal.invariant-loop-rest
invariant-loop-rest g l =
    (g.K.Sink.faults l.sink ≡ g.K.Sink.faults l.initial.sink)
    × (length l.rest ≤ length l.bytes)
    × (l.rest ≡ drop (length l.bytes - length l.rest) l.bytes)
    × (g.K.Sink.written l.sink ≡ added (g.K.Sink.written l.initial.sink) (take (length l.bytes - length l.rest) l.bytes))

abbrev pub decreases-loop-rest : goal.decreases-loop-rest
decreases-loop-rest g l = length l.rest
