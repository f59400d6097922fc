use Rattle.std.proofs.Common.{inl, inr}
use Rattle.mt_base.proofs.Meanings.{one_value, one_fault, never_both}
use Rattle.udp2_packets.proofs.Theorems.{meaning, of_spelled}
use Rattle.udp2_packets.proofs.laws.one_meaning.Goals as goal

pub returns-clause-value : goal.returns-clause-value
returns-clause-value c datagram p q s t = one_value meaning p q datagram (of_spelled p datagram s) (of_spelled q datagram t)

pub returns-clause-fault : goal.returns-clause-fault
returns-clause-fault c datagram r q f g = one_fault meaning r q datagram f g

pub returns-clause-one_of_both : goal.returns-clause-one_of_both
returns-clause-one_of_both c datagram good short = elim (meaning.decides datagram good) [
  | inl s ↦ inl (s.0, record { is = s.1.0; holds = s.1.1; short_enough = short })
  | inr f ↦ inr f
]

pub returns-clause-never_both : goal.returns-clause-never_both
returns-clause-never_both c datagram p r s f = never_both meaning p r datagram (of_spelled p datagram s) f
