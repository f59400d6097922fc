-- The code's packets, whose parts are borrowed, as values.
use Rattle.std.specs.Option.{option_map}
use Rattle.udp2_packets.specs.declared.packet.Packet2.{Packet2}
use Rattle.udp2_packets.specs.declared.packet.Ack2.{Ack2}
use Rattle.udp2_packets.specs.declared.packet.Stamp2.{Stamp2}
use Rattle.udp2_packets.specs.declared.packet.Vector2.{Vector2}
use Rattle.udp2_packets.specs.declared.packet.DelayInfo.{DelayInfo}
use Rattle.udp2_packets.specs.declared.packet.Telling2.{Telling2}
use Rattle.udp2_packets.specs.declared.packet.Telling2.TheVariants as telling
use Rattle.udp2_packets.specs.declared.packet.Body2.{Body2}
use Rattle.udp2_packets.specs.declared.packet.Body2.TheVariants as body
use Rattle.udp2_packets.specs.declared.read.Parts.{Parts}
use Rattle.udp2_packets.specs.Value.{Ack, Stamp, Vector, Telling, NoTelling, AckTelling, VectorTelling, Delay, Body, NoBody, DataBody, DummyBody, Packet}
use Rattle.udp2_packets.specs.Reading.{Announced}

abbrev pub ack_of : Ack2 → Ack
ack_of a = record {
  number = a.number;
  received_ts = a.received_ts;
  gap = a.gap;
  scale = a.scale;
  delays = a.delays.now;
}

abbrev pub stamp_of : Stamp2 → Stamp
stamp_of s = record { time = s.time; gap = s.gap }

abbrev pub vector_of : Vector2 → Vector
vector_of v = record { base = v.base; stamp = option_map stamp_of v.stamp; coded = v.coded.now }

abbrev pub telling_of : Telling2 → Telling
telling_of telling.Nothing = NoTelling
telling_of (telling.Ack ack) = AckTelling (ack_of ack)
telling_of (telling.Vector vector) = VectorTelling (vector_of vector)

abbrev pub delay_of : DelayInfo → Delay
delay_of d = record { most = d.most; timeout = d.timeout }

abbrev pub body_of : Body2 → Body
body_of body.Nothing = NoBody
body_of (body.Data number part bytes) = DataBody number part bytes.now
body_of (body.Dummy number rest) = DummyBody number rest.now

abbrev pub packet_of : Packet2 → Packet
packet_of p = record {
  log_window = p.log_window;
  telling = telling_of p.telling;
  overhead = p.overhead;
  delay = option_map delay_of p.delay;
  aoa = p.aoa;
  body = body_of p.body;
}

abbrev pub announced_of : Parts → Announced
announced_of f = record {
  ack = option_map ack_of f.ack;
  overhead = f.overhead;
  delay = option_map delay_of f.delay;
  aoa = f.aoa;
  number = f.number;
  vector = option_map vector_of f.vector;
  part = f.part;
}
