use Rattle.file_messages.proofs.Coming.{ended_by}
use Rattle.file_messages.proofs.reader.FileReader.is_ended.Goals as goal

pub returns : goal.returns
returns c messages files read = ended_by c.args.self.now.is_ended messages files read.have_come
