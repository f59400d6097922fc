use Rattle.mt_base.proofs.Meanings.{was_spelled, was_fault}
use Rattle.udp2_packets.proofs.Theorems.{meaning, of_spelled}
use Rattle.udp2_packets.proofs.laws.reading_by_layout.Goals as goal

pub returns-clause-packet : goal.returns-clause-packet
returns-clause-packet c datagram p good short =
    (λ is. (let s = was_spelled meaning p datagram good is in record { is = s.0; holds = s.1; short_enough = short }), λ s. meaning.reads p datagram (of_spelled p datagram s))

pub returns-clause-fault : goal.returns-clause-fault
returns-clause-fault c datagram r good = (λ is. was_fault meaning r datagram good is, λ f. meaning.refuses r datagram f)
