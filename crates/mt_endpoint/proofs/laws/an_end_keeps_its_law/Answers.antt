use Rattle.mt_endpoint.proofs.Walking.{grown_walk}
use Rattle.mt_endpoint.proofs.laws.an_end_keeps_its_law.Goals as goal

pub returns : goal.returns
returns c role t act e b s f = (grown_walk role t act e (b, s, f)).walked.acts
