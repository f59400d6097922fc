use Rattle.coded_vector.proofs.PieceLemmas.{holds, holds_one}
use Rattle.coded_vector.proofs.laws.chosen_pieces.Goals as goal

pub returns-clause-held : goal.returns-clause-held
returns-clause-held c flags = holds flags

pub returns-clause-only : goal.returns-clause-only
returns-clause-only c cs flags h = holds_one cs flags h
