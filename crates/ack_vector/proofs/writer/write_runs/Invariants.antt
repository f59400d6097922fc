use Rattle.std.proofs.Common.{◌≡◌, ◌++◌, drop}
use Rattle.mt_base.specs.OutView.{spot}
use Rattle.mt_base.proofs.Bytes.{IsUnderWay}
use Rattle.ack_vector.specs.Longest.{elements_of}
use Rattle.ack_vector.specs.RunWriting.{kept}
use Rattle.ack_vector.proofs.writer.write_runs.Given as goal

-- the elements of the flags that are kept and left are still to be written
abbrev pub invariant-loop-flag : goal.invariant-loop-flag
invariant-loop-flag l =
    IsUnderWay (elements_of l.flags) (elements_of (kept l.writer ++ drop l.flag-index l.flags)) l.fn.out (spot l.place)
    × (l.place.bytes.ghost_name ≡ l.initial.place.bytes.ghost_name)
