use Rattle.end_pair.specs.declared.pair.TheConstants.{LATE}
use Rattle.linked_ends.proofs.Joining.{network_of}
use Rattle.linked_ends.proofs.laws.what_is_delivered_was_sent.Goals as goal

pub returns-clause-network : goal.returns-clause-network
returns-clause-network c settings w p u =
    network_of c.args.pair.now settings w p u (λ kind. c.what_comes_in_time.ensures LATE kind w p.in_time)

pub returns-clause-safe : goal.returns-clause-safe
returns-clause-safe c settings w p u =
    c.two_ends.ensures LATE settings w (network_of c.args.pair.now settings w p u (λ kind. c.what_comes_in_time.ensures LATE kind w p.in_time))
