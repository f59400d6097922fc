use Rattle.mt_base.proofs.Meanings.{one_value, one_fault, never_both}
use Rattle.dvc_pdus.proofs.Theorems.{fields_meaning, meaning}
use Rattle.dvc_pdus.proofs.laws.one_meaning.Goals as goal

pub returns-clause-value : goal.returns-clause-value
returns-clause-value c from bytes p q s t = one_value (fields_meaning from) p q bytes s t

pub returns-clause-fault : goal.returns-clause-fault
returns-clause-fault c from bytes r q f g = one_fault (meaning from) r q bytes f g

pub returns-clause-one_of_both : goal.returns-clause-one_of_both
returns-clause-one_of_both c from bytes good = (meaning from).decides bytes good

pub returns-clause-never_both : goal.returns-clause-never_both
returns-clause-never_both c from bytes pdu r s f = never_both (meaning from) pdu r bytes s f
