use Rattle.mt_endpoint.proofs.Creating.{created_first}
use Rattle.mt_endpoint.proofs.laws.creations_come_first.Goals as goal

pub returns : goal.returns
returns c role t e = created_first role t e
