use Rattle.file_messages.proofs.Meaning.{one_whole, one_under_way}
use Rattle.file_messages.proofs.laws.one_meaning.Goals as goal

pub returns-clause-whole : goal.returns-clause-whole
returns-clause-whole c messages files others a b = one_whole messages files others a b

pub returns-clause-under_way : goal.returns-clause-under_way
returns-clause-under_way c messages files others a b = one_under_way messages files others a b
