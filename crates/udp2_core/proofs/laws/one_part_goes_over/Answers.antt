use Rattle.std.proofs.Common.{refl}
use Rattle.mt_base.specs.Nearness.{nearest}
use Rattle.udp2_packets.specs.Layout.{spelled, written_fields}
use Rattle.udp2_packets.specs.Reading.{ack_at, ack_where, announced_at, body_at, byte_where, checked, delay_where, end_of, fields_at, header_at, is_dummy, number_where, packet_at, reading, stamp_where, vector_at, vector_where}
use Rattle.udp2_core.proofs.laws.one_part_goes_over.Goals as goal

pub returns-clause-sends : goal.returns-clause-sends
unfolding spelled written_fields
returns-clause-sends c = refl

pub returns-clause-waits : goal.returns-clause-waits
unfolding spelled written_fields nearest reading packet_at end_of is_dummy header_at checked fields_at announced_at ack_at ack_where byte_where delay_where number_where vector_where vector_at stamp_where body_at
returns-clause-waits c = refl

pub returns-clause-again : goal.returns-clause-again
unfolding spelled written_fields nearest reading packet_at end_of is_dummy header_at checked fields_at announced_at ack_at ack_where byte_where delay_where number_where vector_where vector_at stamp_where body_at
returns-clause-again c = refl

pub returns-clause-takes : goal.returns-clause-takes
unfolding spelled written_fields nearest reading packet_at end_of is_dummy header_at checked fields_at announced_at ack_at ack_where byte_where delay_where number_where vector_where vector_at stamp_where body_at
returns-clause-takes c = (refl, tt)

pub returns-clause-owes : goal.returns-clause-owes
unfolding spelled written_fields nearest reading packet_at end_of is_dummy header_at checked fields_at announced_at ack_at ack_where byte_where delay_where number_where vector_where vector_at stamp_where body_at
returns-clause-owes c = refl

pub returns-clause-tells : goal.returns-clause-tells
unfolding spelled written_fields nearest reading packet_at end_of is_dummy header_at checked fields_at announced_at ack_at ack_where byte_where delay_where number_where vector_where vector_at stamp_where body_at
returns-clause-tells c = refl

pub returns-clause-settled : goal.returns-clause-settled
unfolding spelled written_fields nearest reading packet_at end_of is_dummy header_at checked fields_at announced_at ack_at ack_where byte_where delay_where number_where vector_where vector_at stamp_where body_at
returns-clause-settled c at = refl
