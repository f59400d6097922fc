use Rattle.std.proofs.Common.{◌≡◌, ◌<◌, length}
use Rattle.mt_base.specs.OutView.{spot}
use Rattle.mt_base.specs.Writing.{puts}
use Rattle.coded_vector.specs.Written.{coded_of, singles}
use Rattle.coded_vector.proofs.writer.write_few.Given as goal

-- what is left to be written is what was to be written at first
abbrev pub invariant-loop-flag : goal.invariant-loop-flag
invariant-loop-flag l =
    (puts (singles (coded_of l.flags)) (spot l.fn.out) ≡ puts (singles (coded_of l.rest)) (spot l.out))
    × (length l.rest < 7)
    × (l.out.bytes.ghost_name ≡ l.fn.out.bytes.ghost_name)

abbrev pub decreases-loop-flag : goal.decreases-loop-flag
decreases-loop-flag l = length l.rest
