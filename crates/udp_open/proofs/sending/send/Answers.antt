use Rattle.std.proofs.Common.{◌<◌, ◌^◌, sym, ap, subst, rules}
use Rattle.udp1_packets.specs.Layout.{IsPacket}
use Rattle.udp1_packets.specs.Value.{Syn, SynBody}
use Rattle.udp1_packets.specs.Views.{syn_of}
use Rattle.udp_open.proofs.OpeningPackets.{marked}
use Rattle.udp_open.proofs.sending.send.Goals as goal

pub write1-requires : goal.write1-requires
write1-requires c =
    let syn = syn_of c.opening_of.result in
    let is = c.opening_of.ensures.value in
    let initial : c.opening_of.result.initial < 2 ^ 32 = search rules in
    subst (λ m. IsPacket (record { ack = c.args.ack; window = 64; marks = m; body = SynBody syn })) (sym c.marks_of.ensures)
    (marked c.args.settings.now.kind c.args.ack syn (c.ranges.ack.fits) initial (ap (λ (s : Syn). s.up) is) (ap (λ (s : Syn). s.down) is)
    (ap (λ (s : Syn). s.correlation) is) c.opening_of.ensures.good)
