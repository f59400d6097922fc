use Rattle.mt_endpoint.proofs.Answering.{written_fit}
use Rattle.mt_endpoint.proofs.laws.answers_fit_requests.Goals as goal

pub returns : goal.returns
returns c role t e = written_fit role t e
