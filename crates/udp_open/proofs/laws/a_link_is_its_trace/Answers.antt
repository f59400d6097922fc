use Rattle.udp_open.proofs.OfTrace.{left_is, queued_or_settled, state_is}
use Rattle.udp_open.proofs.laws.a_link_is_its_trace.Goals as goal

pub returns-clause-left : goal.returns-clause-left
returns-clause-left c = left_is

pub returns-clause-state : goal.returns-clause-state
returns-clause-state c = state_is

pub returns-clause-queued : goal.returns-clause-queued
returns-clause-queued c = queued_or_settled
