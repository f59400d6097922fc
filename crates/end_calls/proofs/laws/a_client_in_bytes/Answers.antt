use Rattle.end_calls.proofs.Examples.{shown}
use Rattle.end_calls.proofs.laws.a_client_in_bytes.Goals as goal

pub returns : goal.returns
returns c = shown
