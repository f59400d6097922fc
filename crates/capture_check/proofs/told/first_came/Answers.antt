use Rattle.capture_check.proofs.Telling.{first_told, first_silent}
use Rattle.capture_check.proofs.told.first_came.Goals as goal

pub returns-in-Some-clause-kept : goal.returns-in-Some-clause-kept
returns-in-Some-clause-kept c held =
    first_told c.args.datagram.now c.args.came.now c.in-Ok.packet c.in-Some.elements.now c.in-Ok.ensures.only c.in-Some.ensures (c.flagged_came.ensures.kept held)

pub returns-in-None-clause-kept : goal.returns-in-None-clause-kept
returns-in-None-clause-kept c held = first_silent c.args.datagram.now c.args.came.now c.in-Ok.packet c.in-Ok.ensures.only c.in-None.ensures

pub returns-in-Err-clause-kept : goal.returns-in-Err-clause-kept
returns-in-Err-clause-kept c held n t = absurd (c.in-Err.ensures.only t.0 t.2)
