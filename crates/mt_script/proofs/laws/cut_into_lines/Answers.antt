use Rattle.mt_script.proofs.LineLaws.{whole, no_ends, lines_of-all_ended, lines_of-with_last}
use Rattle.mt_script.proofs.laws.cut_into_lines.Goals as goal

pub returns-clause-whole : goal.returns-clause-whole
returns-clause-whole c = whole

pub returns-clause-no_end : goal.returns-clause-no_end
returns-clause-no_end c = no_ends

pub returns-clause-closed : goal.returns-clause-closed
returns-clause-closed c = lines_of-all_ended

pub returns-clause-unclosed : goal.returns-clause-unclosed
returns-clause-unclosed c = lines_of-with_last
