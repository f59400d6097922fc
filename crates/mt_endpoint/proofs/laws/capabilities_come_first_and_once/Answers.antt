use Rattle.mt_endpoint.proofs.Telling.{told_first}
use Rattle.mt_endpoint.proofs.laws.capabilities_come_first_and_once.Goals as goal

pub returns : goal.returns
returns c role t e = told_first role t e
