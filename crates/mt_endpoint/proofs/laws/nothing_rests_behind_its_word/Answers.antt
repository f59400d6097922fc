use Rattle.mt_endpoint.proofs.Resting.{grown_rests}
use Rattle.mt_endpoint.proofs.laws.nothing_rests_behind_its_word.Goals as goal

pub returns : goal.returns
returns c role t act e b s f r fine = grown_rests role t act e (b, s, f) r fine
