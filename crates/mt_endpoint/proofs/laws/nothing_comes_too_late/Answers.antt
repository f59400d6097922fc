use Rattle.mt_endpoint.specs.Moving.{inward}
use Rattle.mt_endpoint.specs.Faults.{is_moved, is_moved_whole}
use Rattle.mt_endpoint.proofs.Late.{data_in_time, close_in_time, not_late}
use Rattle.mt_endpoint.proofs.laws.nothing_comes_too_late.Goals as goal

pub returns-clause-of_data : goal.returns-clause-of_data
returns-clause-of_data c role here there pdu id m h e = not_late role here id (is_moved (inward id here)) (data_in_time role here there pdu id m h e)

pub returns-clause-of_close : goal.returns-clause-of_close
returns-clause-of_close c role here there pdu id m h e = not_late role here id (is_moved_whole (inward id here)) (close_in_time role here there pdu id m h e)
