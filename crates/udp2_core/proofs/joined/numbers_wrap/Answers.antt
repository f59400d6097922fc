use Rattle.udp2_core.proofs.Wrapping.{wrapping_net, wrapping_passes, wrapping_settles}
use Rattle.udp2_core.proofs.joined.numbers_wrap.Goals as goal

pub returns-clause-met : goal.returns-clause-met
returns-clause-met c = wrapping_net

pub returns-clause-passes : goal.returns-clause-passes
returns-clause-passes c = wrapping_passes

pub returns-clause-settles : goal.returns-clause-settles
returns-clause-settles c p less = wrapping_settles p less
