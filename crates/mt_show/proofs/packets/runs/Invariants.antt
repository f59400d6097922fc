use Rattle.std.proofs.Common.{map}
use Rattle.mt_show.specs.Words.{run_word}
use Rattle.mt_show.specs.Steps.{behind, Adds}
use Rattle.mt_show.proofs.packets.runs.Given as goal

-- the runs so far were put behind the first one, each behind a comma
abbrev pub invariant-loop-next : goal.invariant-loop-next
invariant-loop-next l = Adds (behind 44 (map run_word l.yielded)) l.initial.out.bytes.items l.out.bytes.items
