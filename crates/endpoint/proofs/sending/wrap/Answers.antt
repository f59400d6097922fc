use Rattle.std.proofs.Common.{refl, arith}
use Rattle.mt_base.proofs.Spaces.{never_refused}
use Rattle.tunnel_pdus.specs.Value.{Data, pdu_fields}
use Rattle.endpoint.proofs.MessagesGiven.{data_size}
use Rattle.endpoint.proofs.sending.wrap.Goals as goal

pub unreachable-requires : goal.unreachable-requires
unreachable-requires c = never_refused (pdu_fields (Data c.args.payload.now)) c.args.out.now _ c.in_default.field-0 (omega (arith, c.requires, data_size c.args.payload.now)) refl c.in_default.ensures.no_room
