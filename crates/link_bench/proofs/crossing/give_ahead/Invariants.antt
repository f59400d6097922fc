use Rattle.std.proofs.Common.{◌≤◌, [], length, take}
use Rattle.link_bench.specs.Passing.{Passes}
use Rattle.link_bench.proofs.crossing.give_ahead.Given as goal

-- the first so many bytes were given
abbrev pub invariant-loop-piece : goal.invariant-loop-piece
invariant-loop-piece g l =
    (l.given ≤ length l.bytes)
    × Passes (g.C.Carrier.stands l.initial.link) (g.C.Carrier.stands l.link) (take l.given l.bytes) []
