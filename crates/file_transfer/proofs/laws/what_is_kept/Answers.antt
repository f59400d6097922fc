use Rattle.file_transfer.proofs.Keeping.{last_is_kept, others_stay}
use Rattle.file_transfer.proofs.laws.what_is_kept.Goals as goal

pub returns-clause-kept : goal.returns-clause-kept
returns-clause-kept c = last_is_kept

pub returns-clause-others : goal.returns-clause-others
returns-clause-others c = others_stay
