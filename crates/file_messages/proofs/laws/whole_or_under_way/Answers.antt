use Rattle.file_messages.proofs.Coming.{under_way_is_open}
use Rattle.file_messages.proofs.laws.whole_or_under_way.Goals as goal

pub returns : goal.returns
returns c messages files others a b = under_way_is_open messages others files b a
