use Rattle.std.proofs.Common.{arith}
use Rattle.udp2_packets.specs.Views.{packet_of, telling_of}
use Rattle.udp2_packets.proofs.WriterLemmas.{too_long}
use Rattle.udp2_core.specs.SecondLayout.{telling_of as told_of}
use Rattle.udp2_core.proofs.Heads.{head_good, head_short, head_size, head_written}
use Rattle.udp2_core.proofs.head.write_fields.Goals as goal

pub write_fields2-requires : goal.write_fields2-requires
write_fields2-requires c =
    head_good (packet_of c.head_packet-packet.result) (telling_of c.telling_where-telling.result)
    c.args.above c.args.numbers c.head_packet-packet.ensures c.telling_where-telling.ensures.short

pub unreachable-requires : goal.unreachable-requires
unreachable-requires c =
    let p = packet_of c.head_packet-packet.result in
    omega (
      arith,
      too_long p c.args.out.now _ c.in-Err.ensures.no_room,
      head_short p (telling_of c.telling_where-telling.result) c.args.above c.args.numbers
          c.head_packet-packet.ensures c.telling_where-telling.ensures.short,
    )

pub returns-clause-bound : goal.returns-clause-bound
returns-clause-bound c =
    let p = packet_of c.head_packet-packet.result in
    omega (
      arith,
      c.in-Ok.ensures.ok.0,
      head_size p (telling_of c.telling_where-telling.result) c.args.above c.args.numbers
          c.head_packet-packet.ensures c.telling_where-telling.ensures.short,
    )

pub returns-clause-text : goal.returns-clause-text
returns-clause-text c seen h =
    head_written (packet_of c.head_packet-packet.result) (telling_of c.telling_where-telling.result)
    (told_of c.args.got.now.peer c.args.got.now.floor seen) c.args.tells c.args.above c.args.numbers
    c.in-Ok.end c.args.out.now c.write_fields2.new.out c.head_packet-packet.ensures
    (c.telling_where-telling.ensures.told seen h) c.in-Ok.ensures.ok
