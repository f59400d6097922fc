use Rattle.std.proofs.Common.{length}
use Rattle.mt_show.proofs.Lines.{SoFar}
use Rattle.mt_show.proofs.whole.show_lines.Given as goal

abbrev pub invariant-loop-rest : goal.invariant-loop-rest
invariant-loop-rest l = SoFar l.text l.rest l.number l.out.bytes.items

abbrev pub decreases-loop-rest : goal.decreases-loop-rest
decreases-loop-rest l = length l.rest
