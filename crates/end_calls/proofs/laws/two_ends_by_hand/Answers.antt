use Rattle.end_calls.proofs.Playing.{net_capable, shown}
use Rattle.end_calls.proofs.laws.two_ends_by_hand.Goals as goal

pub returns-clause-net : goal.returns-clause-net
returns-clause-net c = net_capable

pub returns-clause-shown : goal.returns-clause-shown
returns-clause-shown c = shown
