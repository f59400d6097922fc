use Rattle.udp_open.proofs.links.OneLink.{one_net, one_agrees}
use Rattle.udp_open.proofs.joined.a_link_opens.Goals as goal

pub returns-clause-met : goal.returns-clause-met
returns-clause-met c = one_net

pub returns-clause-agree : goal.returns-clause-agree
returns-clause-agree c = one_agrees
