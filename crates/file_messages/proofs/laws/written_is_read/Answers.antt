use Rattle.file_messages.proofs.Meaning.{written_read}
use Rattle.file_messages.proofs.laws.written_is_read.Goals as goal

pub returns : goal.returns
returns c messages files written = written_read messages files written
