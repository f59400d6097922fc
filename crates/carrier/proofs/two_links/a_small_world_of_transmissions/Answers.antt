use Rattle.carrier.proofs.links.SmallSeen.{seen_asks, seen_net, seen_passes, seen_settles}
use Rattle.carrier.proofs.two_links.a_small_world_of_transmissions.Goals as goal

pub returns-clause-met : goal.returns-clause-met
returns-clause-met c = seen_net

pub returns-clause-asks : goal.returns-clause-asks
returns-clause-asks c = seen_asks

pub returns-clause-passes : goal.returns-clause-passes
returns-clause-passes c = seen_passes

pub returns-clause-settles : goal.returns-clause-settles
returns-clause-settles c p less = seen_settles p less
