use Rattle.lossy_mode.proofs.OneLossy.{one_net}
use Rattle.lossy_mode.proofs.joined.a_lossy_link_carries_a_part.Goals as goal

pub returns-clause-met : goal.returns-clause-met
returns-clause-met c = one_net
