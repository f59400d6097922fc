use Rattle.mt_endpoint.proofs.Playing.{net_closed, net_both_moved, net_answered, net_lossy}
use Rattle.mt_endpoint.proofs.laws.sessions_are_of_two_ends.Goals as goal

pub returns-clause-close : goal.returns-clause-close
returns-clause-close c = net_closed

pub returns-clause-twice : goal.returns-clause-twice
returns-clause-twice c = net_both_moved

pub returns-clause-waiting : goal.returns-clause-waiting
returns-clause-waiting c = net_answered

pub returns-clause-lossy : goal.returns-clause-lossy
returns-clause-lossy c = net_lossy
