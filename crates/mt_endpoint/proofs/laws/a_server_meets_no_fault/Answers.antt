use Rattle.mt_endpoint.proofs.Controls.{server_fine}
use Rattle.mt_endpoint.proofs.laws.a_server_meets_no_fault.Goals as goal

pub returns : goal.returns
returns c here there heard m h k = server_fine here there heard m h k
