use Rattle.udp_open.proofs.Staying.{closed_stays}
use Rattle.udp_open.proofs.laws.closed_for_good.Goals as goal

pub returns : goal.returns
returns c settings t e h opens = closed_stays settings t e h opens
