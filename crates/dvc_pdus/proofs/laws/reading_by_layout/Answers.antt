use Rattle.mt_base.proofs.Meanings.{was_spelled, was_fault}
use Rattle.dvc_pdus.proofs.Theorems.{meaning}
use Rattle.dvc_pdus.proofs.laws.reading_by_layout.Goals as goal

pub returns-clause-pdu : goal.returns-clause-pdu
returns-clause-pdu c from bytes pdu good = (λ is. was_spelled (meaning from) pdu bytes good is, λ s. (meaning from).reads pdu bytes s)

pub returns-clause-fault : goal.returns-clause-fault
returns-clause-fault c from bytes r good = (λ is. was_fault (meaning from) r bytes good is, λ f. (meaning from).refuses r bytes f)
