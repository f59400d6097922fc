use Rattle.mt_script.proofs.Cutting.{lines_cut, lines_end}
use Rattle.mt_script.proofs.cut.cut_line.Goals as goal

pub returns-in-Some-clause-lines : goal.returns-in-Some-clause-lines
returns-in-Some-clause-lines c = lines_cut c.args.text.now c.cut_at.result.0.now c.cut_at.result.1 c.in-Some.rest c.in-Some.is c.cut_at.ensures

pub returns-in-None-clause-lines : goal.returns-in-None-clause-lines
returns-in-None-clause-lines c = lines_end c.args.text.now c.cut_at.result.0.now c.cut_at.result.1 c.in-None.is c.cut_at.ensures c.requires
