use Rattle.capture_check.proofs.OneJudgement.{some_judgement, one_judgement}
use Rattle.capture_check.proofs.laws.one_judgement.Goals as goal

pub returns-clause-some : goal.returns-clause-some
returns-clause-some c = some_judgement

pub returns-clause-one : goal.returns-clause-one
returns-clause-one c = one_judgement
