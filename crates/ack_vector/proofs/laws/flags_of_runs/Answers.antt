use Rattle.ack_vector.proofs.FlagLemmas.{flags_of-map, length-flags_of}
use Rattle.ack_vector.proofs.laws.flags_of_runs.Goals as goal

pub returns-clause-joined : goal.returns-clause-joined
returns-clause-joined c es = flags_of-map es

pub returns-clause-few : goal.returns-clause-few
returns-clause-few c es = length-flags_of es
