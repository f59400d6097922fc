use Rattle.mt_windows.proofs.Pieces.{told_settled}
use Rattle.mt_windows.proofs.laws.settled_was_told.Goals as goal

pub returns : goal.returns
returns c limits t p h = told_settled limits t p h
