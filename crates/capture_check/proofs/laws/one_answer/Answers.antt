use Rattle.capture_check.proofs.OneAnswer.{some_answer, one_answer, written}
use Rattle.capture_check.proofs.laws.one_answer.Goals as goal

pub returns-clause-some : goal.returns-clause-some
returns-clause-some c = some_answer

pub returns-clause-one : goal.returns-clause-one
returns-clause-one c = one_answer

pub returns-clause-written : goal.returns-clause-written
returns-clause-written c = written
