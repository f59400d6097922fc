use Rattle.std.proofs.Common.{All, take}
use Rattle.ack_vector.specs.Elements.{IsGood}
use Rattle.ack_vector.proofs.reader.read_runs.Given as goal

abbrev pub invariant-loop-at : goal.invariant-loop-at
invariant-loop-at l = All IsGood (take l.at l.elements)
