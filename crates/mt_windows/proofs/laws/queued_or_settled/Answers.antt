use Rattle.mt_windows.proofs.Pieces.{all_bytes}
use Rattle.mt_windows.proofs.laws.queued_or_settled.Goals as goal

pub returns : goal.returns
returns c limits t = all_bytes limits t
