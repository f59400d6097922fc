use Rattle.end_net.proofs.OpenTunnels.{no_two}
use Rattle.end_net.proofs.laws.one_request_opens_one_tunnel.Goals as goal

pub returns : goal.returns
returns c = no_two
