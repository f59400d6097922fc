use Rattle.end_session.proofs.KnownOf.{state_is, open_is, live_is, settled_is, refusal_is}
use Rattle.end_session.proofs.laws.a_tunnel_is_what_acts_made.Goals as goal

pub returns-clause-state : goal.returns-clause-state
returns-clause-state c = state_is

pub returns-clause-open_one : goal.returns-clause-open_one
returns-clause-open_one c = open_is

pub returns-clause-live : goal.returns-clause-live
returns-clause-live c = live_is

pub returns-clause-settled : goal.returns-clause-settled
returns-clause-settled c = settled_is

pub returns-clause-refused : goal.returns-clause-refused
returns-clause-refused c = refusal_is
