use Rattle.mt_script.proofs.OneAnswer.{events_hold, few_events, numbers_hold}
use Rattle.mt_script.proofs.laws.events_read.Goals as goal

pub returns-clause-events : goal.returns-clause-events
returns-clause-events c = events_hold

pub returns-clause-few : goal.returns-clause-few
returns-clause-few c = few_events

pub returns-clause-numbers : goal.returns-clause-numbers
returns-clause-numbers c = numbers_hold
