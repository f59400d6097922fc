use Rattle.std.proofs.Common.{refl}
use Rattle.mt_base.specs.Nearness.{nearest}
use Rattle.ack_vector.specs.Longest.{elements_of}
use Rattle.udp1_packets.specs.Reading.{body_at, data_at, elements_at, number_where, packet_at, rest_at, size_at, told_at, vector_at, vector_where}
use Rattle.udp1_core.proofs.laws.one_part_goes_over.Goals as goal

pub returns-clause-sends : goal.returns-clause-sends
returns-clause-sends c = refl

pub returns-clause-waits : goal.returns-clause-waits
unfolding nearest packet_at body_at told_at vector_where number_where rest_at data_at
returns-clause-waits c = refl

pub returns-clause-again : goal.returns-clause-again
unfolding nearest packet_at body_at told_at vector_where number_where rest_at data_at
returns-clause-again c = refl

pub returns-clause-takes : goal.returns-clause-takes
unfolding nearest packet_at body_at told_at vector_where number_where rest_at data_at
returns-clause-takes c = (refl, tt)

pub returns-clause-owes : goal.returns-clause-owes
unfolding nearest packet_at body_at told_at vector_where number_where rest_at data_at
returns-clause-owes c = refl

pub returns-clause-tells : goal.returns-clause-tells
unfolding nearest packet_at body_at told_at vector_where number_where rest_at data_at elements_of
returns-clause-tells c = refl

pub returns-clause-settled : goal.returns-clause-settled
unfolding nearest packet_at body_at told_at vector_where number_where rest_at data_at vector_at size_at elements_at
returns-clause-settled c at = refl
