use Rattle.mt_base.proofs.LowPart.{one_near, nearest_is, nearest_shown, nearest_meant}
use Rattle.mt_base.proofs.laws.nearness.Goals as goal

pub returns-clause-one : goal.returns-clause-one
returns-clause-one c modulus reference low x y p a b = one_near modulus reference low x y p a b

pub returns-clause-value : goal.returns-clause-value
returns-clause-value c half reference low p s = nearest_is half reference low p s

pub returns-clause-shown : goal.returns-clause-shown
returns-clause-shown c half reference low n p s e = nearest_shown half reference low n p s e

pub returns-clause-meant : goal.returns-clause-meant
returns-clause-meant c half reference n p low high = nearest_meant half reference n p low high
