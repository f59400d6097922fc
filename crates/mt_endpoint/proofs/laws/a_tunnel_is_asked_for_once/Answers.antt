use Rattle.mt_endpoint.proofs.Asking.{asked_once}
use Rattle.mt_endpoint.proofs.laws.a_tunnel_is_asked_for_once.Goals as goal

pub returns : goal.returns
returns c role t e = asked_once role t e
