use Rattle.mt_show.proofs.Lines.{line_answered}
use Rattle.mt_show.proofs.whole.show_line.Goals as goal

pub returns-in-Ok : goal.returns-in-Ok
returns-in-Ok c =
    line_answered c.args.line.now c.args.number c.in-Ok-Some.asked c.args.out.now.bytes.items c.answer.new.out.bytes.items (rw c.in-Ok-Some.field-0-is at c.in-Ok-Some.ensures) c.in-Ok.ensures
