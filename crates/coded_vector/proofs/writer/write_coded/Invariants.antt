use Rattle.std.proofs.Common.{◌≡◌, ◌++◌, drop}
use Rattle.mt_base.specs.OutView.{spot}
use Rattle.mt_base.proofs.Bytes.{IsUnderWay}
use Rattle.coded_vector.specs.Written.{coded_of}
use Rattle.coded_vector.specs.CodedWriting.{kept}
use Rattle.coded_vector.proofs.writer.write_coded.Given as goal

-- the bytes of the flags that are kept and left are still to be written
abbrev pub invariant-loop-flag : goal.invariant-loop-flag
invariant-loop-flag l =
    IsUnderWay (coded_of l.flags) (coded_of (kept l.writer ++ drop l.flag-index l.flags)) l.fn.out
    (spot l.place)
    × (l.place.bytes.ghost_name ≡ l.initial.place.bytes.ghost_name)
