use Rattle.end_calls.proofs.Verdicts.{verdict_is}
use Rattle.end_calls.proofs.laws.verdicts_are_of_the_table.Goals as goal

-- src/laws.rt:32:1
pub returns : goal.returns
returns c = verdict_is
