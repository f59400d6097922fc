use Rattle.std.proofs.Common.{sym, subst}
use Rattle.std.specs.Option.{option_copied}
use Rattle.mt_base.specs.Filling.{Fills, fills}
use Rattle.udp1_packets.specs.declared.packet.Body1.{Body1}
use Rattle.udp1_packets.specs.Layout.{vector_fields, aoa_fields, body_fields, zeros_after, zeros}
use Rattle.udp1_packets.specs.Views.{body_of}
use Rattle.udp1_packets.proofs.Parts.{after_told}
use Rattle.udp1_packets.proofs.write.put_body.Goals as goal

pub returns-in_ok-put_told-in-Fec-clause-filled : goal.returns-in_ok-put_told-in-Fec-clause-filled
returns-in_ok-put_told-in-Fec-clause-filled g c =
    let P : Body1 → Type 0 = λ b. Fills (g.P.Place.filling c.put_fec.new.place) c.put_fec.result (fills (body_fields (body_of b) (zeros (body_of b))) (g.P.Place.filling c.args.place.now)) in
    let vector = option_copied c.in-Fec.vector in
    subst P (sym c.in-Fec.is)
    (after_told (vector_fields vector (zeros_after vector)) (aoa_fields c.in-Fec.aoa) _ _ _ _ c.put_fec.result c.in_ok-put_told-in-Fec.ensures.filled c.put_fec.ensures.filled)
