use Rattle.std.proofs.Common.{◌≡◌, Bool, List, length}
use Rattle.mt_base.specs.OutView.{spot}
use Rattle.link_machine.specs.Flags.{AreSaid, size_of}
use Rattle.link_machine.proofs.flags.write_flags.Given as goal

-- the writer went through the flags of the numbers so far
abbrev pub invariant-loop-ahead : goal.invariant-loop-ahead
invariant-loop-ahead g l =
    (flags : List Bool)
    × g.W.FlagWriter.wrote l.writer flags (spot l.place).before
    × (size_of (spot l.place) ≡ length l.fn.out)
    × (length flags ≡ l.ahead)
    × AreSaid (goal.F-post g l.says) l.from flags
    × (l.place.bytes.ghost_name ≡ l.initial.place.bytes.ghost_name)
