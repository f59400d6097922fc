use Rattle.file_messages.proofs.LastFiles.{once, all_last, last_kept}
use Rattle.file_messages.proofs.laws.each_name_once.Goals as goal

pub returns-clause-once : goal.returns-clause-once
returns-clause-once c files = once files

pub returns-clause-last : goal.returns-clause-last
returns-clause-last c files = all_last files

pub returns-clause-kept : goal.returns-clause-kept
returns-clause-kept c files file is = last_kept files file is
