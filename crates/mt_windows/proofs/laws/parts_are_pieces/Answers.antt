use Rattle.mt_windows.proofs.Pieces.{pieces_and_rest}
use Rattle.mt_windows.proofs.laws.parts_are_pieces.Goals as goal

pub returns : goal.returns
returns c limits t = pieces_and_rest limits t
