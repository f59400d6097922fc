use Rattle.std.proofs.Common.{length}
use Rattle.coded_vector.proofs.writer.+bits.Given as goal

abbrev pub decreases-bits : goal.decreases-bits
decreases-bits l = length l.flags.now
