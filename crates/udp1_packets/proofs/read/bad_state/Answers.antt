use Rattle.std.proofs.Common.{sym}
use Rattle.udp1_packets.proofs.States.{no_bad_state, bad_state_at}
use Rattle.udp1_packets.proofs.read.bad_state.Goals as goal

pub returns-in-Ok-clause-first : goal.returns-in-Ok-clause-first
returns-in-Ok-clause-first c = sym (no_bad_state c.args.elements.now c.in-Ok.ensures.good)

pub returns-in-Err-clause-first : goal.returns-in-Err-clause-first
returns-in-Err-clause-first c = sym (bad_state_at c.args.elements.now _ c.in-Err.ensures.place c.in-Err.ensures.bad c.in-Err.ensures.first)
