use Rattle.mt_base.proofs.Meanings.{one_value, one_fault, never_both}
use Rattle.udp1_packets.proofs.Decided.{decided}
use Rattle.udp1_packets.proofs.Theorems.{meaning}
use Rattle.udp1_packets.proofs.laws.one_meaning.Goals as goal

pub returns-clause-value : goal.returns-clause-value
returns-clause-value c bytes p q s t = one_value meaning p q bytes s t

pub returns-clause-fault : goal.returns-clause-fault
returns-clause-fault c bytes r q f g = one_fault meaning r q bytes f g

pub returns-clause-one_of_both : goal.returns-clause-one_of_both
returns-clause-one_of_both c bytes good = decided bytes good

pub returns-clause-never_both : goal.returns-clause-never_both
returns-clause-never_both c bytes p r s f = never_both meaning p r bytes s f
