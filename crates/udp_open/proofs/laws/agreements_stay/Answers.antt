use Rattle.udp_open.proofs.Staying.{agreed_stays}
use Rattle.udp_open.proofs.laws.agreements_stay.Goals as goal

pub returns : goal.returns
returns c settings t e a h = agreed_stays settings t e a h
