use Rattle.carrier.proofs.links.Small.{small_asks, small_net, small_passes}
use Rattle.carrier.proofs.two_links.a_small_world.Goals as goal

pub returns-clause-met : goal.returns-clause-met
returns-clause-met c = small_net

pub returns-clause-asks : goal.returns-clause-asks
returns-clause-asks c = small_asks

pub returns-clause-passes : goal.returns-clause-passes
returns-clause-passes c = small_passes
