use Rattle.end_calls.proofs.TwoEnds.{net_is_safe}
use Rattle.end_calls.proofs.laws.two_ends_in_bytes.Goals as goal

pub returns : goal.returns
returns c = net_is_safe
