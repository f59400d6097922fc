use Rattle.mt_endpoint.proofs.Controls.{client_fine}
use Rattle.mt_endpoint.proofs.laws.a_client_meets_no_fault.Goals as goal

pub returns : goal.returns
returns c here there heard m h k = client_fine here there heard m h k
