use Rattle.mt_endpoint.proofs.Carrying.{tunnel_fine}
use Rattle.mt_endpoint.proofs.laws.no_tunnel_pdu_is_a_fault.Goals as goal

pub returns : goal.returns
returns c role here there drawn m l h = tunnel_fine role here there drawn m l.reliable h
