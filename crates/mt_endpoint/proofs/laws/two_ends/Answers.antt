use Rattle.mt_endpoint.proofs.Together.{net_is_safe, both_keep}
use Rattle.mt_endpoint.proofs.laws.two_ends.Goals as goal

pub returns-clause-safe : goal.returns-clause-safe
returns-clause-safe c w n = net_is_safe w n

pub returns-clause-ends : goal.returns-clause-ends
returns-clause-ends c w n = both_keep w n
