use Rattle.dvc_channels.proofs.Sending.{fragments_sent, fragments_taken}
use Rattle.dvc_channels.proofs.laws.fragments_fit.Goals as goal

pub returns-clause-sent : goal.returns-clause-sent
returns-clause-sent c from id message fits long bytes = fragments_sent from id message fits long bytes

pub returns-clause-taken : goal.returns-clause-taken
returns-clause-taken c id message = fragments_taken id message
