use Rattle.capture_check.proofs.ReadBack.{spelled-injective, spelled_line}
use Rattle.capture_check.proofs.laws.one_spelling.Goals as goal

pub returns-clause-one : goal.returns-clause-one
returns-clause-one c = spelled-injective

pub returns-clause-line : goal.returns-clause-line
returns-clause-line c = spelled_line
