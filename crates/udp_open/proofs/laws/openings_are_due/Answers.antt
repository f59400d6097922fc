use Rattle.udp_open.proofs.Agreeing.{opens_due}
use Rattle.udp_open.proofs.laws.openings_are_due.Goals as goal

pub returns : goal.returns
returns c settings t h = opens_due settings t h
