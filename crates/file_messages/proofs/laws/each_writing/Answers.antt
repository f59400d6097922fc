use Rattle.file_messages.proofs.EachCut.{each_written}
use Rattle.file_messages.proofs.laws.each_writing.Goals as goal

pub returns : goal.returns
returns c files good few = each_written files good few
