use Rattle.mt_endpoint.proofs.AskedFor.{open_in_net}
use Rattle.mt_endpoint.proofs.Apart.{apart_in_net}
use Rattle.mt_endpoint.proofs.laws.an_open_tunnel_was_asked_for.Goals as goal

pub returns-clause-open_one : goal.returns-clause-open_one
returns-clause-open_one c w n role kind h = open_in_net w n role kind h

pub returns-clause-apart : goal.returns-clause-apart
returns-clause-apart c w n one second h k same = apart_in_net w n one second h k same
