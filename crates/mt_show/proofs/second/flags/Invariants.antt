use Rattle.mt_show.specs.Steps.{Adds}
use Rattle.mt_show.proofs.Flags.{letters}
use Rattle.mt_show.proofs.second.flags.Given as goal

-- the flags so far were put behind the first one
abbrev pub invariant-loop-next : goal.invariant-loop-next
invariant-loop-next l = Adds (letters l.yielded) l.initial.out.bytes.items l.out.bytes.items
