use Rattle.file_messages.proofs.Cutting.{one_writing}
use Rattle.file_messages.proofs.laws.one_writing.Goals as goal

pub returns : goal.returns
returns c messages others files a b = one_writing messages others files a b
