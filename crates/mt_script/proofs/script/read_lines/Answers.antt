use Rattle.mt_script.proofs.ScriptLines.{goes_on}
use Rattle.mt_script.proofs.script.read_lines.Goals as goal

pub loop-rest-preserved : goal.loop-rest-preserved
loop-rest-preserved c =
    goes_on c.args.text.now c.loop-rest.rest.now c.cut_line.result.0.now c.cut_line.result.1.now c.loop-rest.number c.loop-rest.script c.add_line.new.self
    c.loop-rest.invariant c.cut_line.ensures.lines c.in-Ok.ensures
