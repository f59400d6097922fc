use Rattle.std.proofs.Common.{arith}
use Rattle.coded_vector.specs.Written.{coded_of}
use Rattle.coded_vector.proofs.PieceLemmas.{holds, holds_flags, holds_length}
use Rattle.coded_vector.proofs.laws.written_spells.Goals as goal

pub returns-clause-spells : goal.returns-clause-spells
returns-clause-spells c flags = holds_flags (coded_of flags) flags (holds flags)

pub returns-clause-few : goal.returns-clause-few
returns-clause-few c flags = (holds_length (coded_of flags) flags (holds flags)).0

pub returns-clause-short : goal.returns-clause-short
returns-clause-short c flags = let bound = holds_length (coded_of flags) flags (holds flags) in
    omega (arith, bound.1)
