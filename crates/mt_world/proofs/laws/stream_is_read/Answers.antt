use Rattle.mt_world.proofs.Cuts.{stream_is_read, one_cut}
use Rattle.mt_world.proofs.laws.stream_is_read.Goals as goal

pub returns-clause-read : goal.returns-clause-read
returns-clause-read c role t = stream_is_read role t

pub returns-clause-only : goal.returns-clause-only
returns-clause-only c from stream p q r s h k = one_cut from stream p q r s h k
