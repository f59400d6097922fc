use Rattle.file_session.proofs.Apart.{handed_on, handed_same, sent_on, sent_same}
use Rattle.file_session.proofs.laws.calls_are_apart.Goals as goal

pub returns-clause-sends : goal.returns-clause-sends
returns-clause-sends c t messages = (sent_on t messages, handed_same t messages)

pub returns-clause-takes : goal.returns-clause-takes
returns-clause-takes c t messages = (handed_on t messages, sent_same t messages)
