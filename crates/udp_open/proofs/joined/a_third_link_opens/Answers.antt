use Rattle.udp_open.proofs.links.ThirdLink.{third_net, third_agrees}
use Rattle.udp_open.proofs.joined.a_third_link_opens.Goals as goal

pub returns-clause-met : goal.returns-clause-met
returns-clause-met c = third_net

pub returns-clause-agree : goal.returns-clause-agree
returns-clause-agree c = third_agrees
