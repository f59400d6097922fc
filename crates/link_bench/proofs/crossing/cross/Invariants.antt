use Rattle.std.proofs.Common.{◌≤◌, [], length, take}
use Rattle.link_bench.specs.Passing.{Passes}
use Rattle.link_bench.proofs.crossing.cross.Given as goal

-- the first so many bytes were given at one end, and the first so many pulled at the other
abbrev pub invariant-loop-turn : goal.invariant-loop-turn
invariant-loop-turn g l =
    (l.given ≤ length l.bytes)
    × (l.pulled ≤ length l.bytes)
    × Passes (g.C.Carrier.stands l.fn.near) (g.C.Carrier.stands l.near) (take l.given l.bytes) []
    × Passes (g.C.Carrier.stands l.fn.far) (g.C.Carrier.stands l.far) [] (take l.pulled l.bytes)
