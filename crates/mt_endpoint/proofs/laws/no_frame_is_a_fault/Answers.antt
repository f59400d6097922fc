use Rattle.mt_endpoint.proofs.MainData.{frame_fine}
use Rattle.mt_endpoint.proofs.laws.no_frame_is_a_fault.Goals as goal

pub returns : goal.returns
returns c role here there heard m h = frame_fine role here there heard m h
