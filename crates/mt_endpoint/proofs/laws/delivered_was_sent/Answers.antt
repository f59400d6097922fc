use Rattle.mt_endpoint.proofs.BothWays.{both_ways}
use Rattle.mt_endpoint.proofs.laws.delivered_was_sent.Goals as goal

pub returns : goal.returns
returns c server client j id = both_ways server client j id
