use Rattle.mt_show.proofs.Lines.{goes_on, stops}
use Rattle.mt_show.proofs.whole.show_lines.Goals as goal

pub returns-in-Err : goal.returns-in-Err
returns-in-Err c =
    stops c.args.text.now c.loop-rest.rest.now c.cut_line.result.0.now c.cut_line.result.1.now c.loop-rest.number c.loop-rest.out.bytes.items c.show_line.new.out.bytes.items c.in-Err.refusal
    c.requires c.loop-rest.invariant c.cut_line.ensures.lines c.in-Err.ensures

pub loop-rest-preserved : goal.loop-rest-preserved
loop-rest-preserved c =
    goes_on c.args.text.now c.loop-rest.rest.now c.cut_line.result.0.now c.cut_line.result.1.now c.loop-rest.number c.loop-rest.out.bytes.items c.show_line.new.out.bytes.items
    c.loop-rest.invariant c.cut_line.ensures.lines c.in-Ok.ensures
