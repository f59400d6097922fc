-- The code's packets, whose parts are borrowed, as values.
use Rattle.std.specs.Option.{option_copied, option_map}
use Rattle.udp1_packets.specs.declared.packet.Packet1.{Packet1}
use Rattle.udp1_packets.specs.declared.packet.Syn1.{Syn1}
use Rattle.udp1_packets.specs.declared.packet.Extension.{Extension}
use Rattle.udp1_packets.specs.declared.packet.Body1.{Body1}
use Rattle.udp1_packets.specs.declared.packet.Body1.TheVariants as code
use Rattle.udp1_packets.specs.Value.{Extended, Syn, Body, SynBody, DataBody, FecBody, BareBody, Packet}

abbrev pub extended_of : Extension → Extended
extended_of e = record { flags = e.flags; version = e.version; hash = option_copied e.hash }

abbrev pub syn_of : Syn1 → Syn
syn_of s = record {
  answer = s.answer;
  initial = s.initial;
  up = s.up;
  down = s.down;
  correlation = option_copied s.correlation;
  extension = option_map extended_of s.extension;
  padding = s.padding;
}

abbrev pub body_of : Body1 → Body
body_of (code.Syn syn) = SynBody (syn_of syn)
body_of (code.Data vector aoa coded start bytes) =
    DataBody (option_copied vector) aoa coded start bytes.now
body_of (code.Fec vector aoa coded start range index bytes) =
    FecBody (option_copied vector) aoa coded start range index bytes.now
body_of (code.Bare vector aoa rest) = BareBody (option_copied vector) aoa rest.now

abbrev pub packet_of : Packet1 → Packet
packet_of p = record { ack = p.ack; window = p.window; marks = p.marks; body = body_of p.body }
