use Rattle.std.proofs.Common.{ℕ, refl, arith, replicate}
use Rattle.std.proofs.lemmas.List.{length-replicate}
use Rattle.mt_base.proofs.Spaces.{never_refused}
use Rattle.tunnel_pdus.specs.Value.{pdu_fields}
use Rattle.tunnel_pdus.specs.Views.{pdu_of}
use Rattle.end_session.proofs.Sizes.{tunnel_short}
use Rattle.end_session.proofs.outgoing.Outgoing.put_tunnel.Goals as goal

-- there is room for the greatest tunnel PDU
pub unreachable-requires : goal.unreachable-requires
unreachable-requires c =
    let pdu = pdu_of c.args.pdu.now in
    never_refused (pdu_fields pdu) (replicate 1604 0) _ c.in_default.field-0 (omega (arith, length-replicate {A = ℕ} 1604 0, tunnel_short pdu c.requires.fits)) refl c.in_default.ensures.no_room
