use Rattle.capture_check.proofs.Openings.{that_opening, no_opening}
use Rattle.capture_check.proofs.layout.opening.Goals as goal

pub returns-in-Syn-clause-only : goal.returns-in-Syn-clause-only
returns-in-Syn-clause-only c syn opening = that_opening c.args.datagram.now c.in-Ok.packet c.in-Syn.syn syn c.in-Ok.ensures.only c.in-Syn.is opening

pub returns-in_default : goal.returns-in_default
returns-in_default c = record { found = tt; only = λ syn opening. no_opening c.args.datagram.now c.in-Ok.packet syn c.in-Ok.ensures.only c.in_default.not-Syn opening }

pub returns-in-Err-clause-only : goal.returns-in-Err-clause-only
returns-in-Err-clause-only c syn opening = c.in-Err.ensures.only opening.packet opening.spelled
