use Rattle.soft_sync.proofs.InOrder.{asked, oldest}
use Rattle.soft_sync.proofs.laws.answers_come_in_order.Goals as goal

pub returns-clause-asked : goal.returns-clause-asked
returns-clause-asked c requests answers request h = asked requests answers request h

pub returns-clause-oldest : goal.returns-clause-oldest
returns-clause-oldest c requests answers h = oldest requests answers h
