use Rattle.mt_endpoint.proofs.Taken.{close_fine, data_known}
use Rattle.mt_endpoint.proofs.laws.a_close_is_no_fault.Goals as goal

pub returns-clause-of_close : goal.returns-clause-of_close
returns-clause-of_close c role here there pdu id m h e = close_fine role here there pdu id m h e

pub returns-clause-of_data : goal.returns-clause-of_data
returns-clause-of_data c role here there pdu id m h e = data_known role here there pdu id m h e
