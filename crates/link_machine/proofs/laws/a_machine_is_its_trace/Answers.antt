use Rattle.link_machine.proofs.OfTrace.{left_is, state_is}
use Rattle.link_machine.proofs.laws.a_machine_is_its_trace.Goals as goal

pub returns-clause-left : goal.returns-clause-left
returns-clause-left c = left_is

pub returns-clause-state : goal.returns-clause-state
returns-clause-state c = state_is
