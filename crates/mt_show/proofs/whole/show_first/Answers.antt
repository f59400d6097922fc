use Rattle.std.proofs.Common.{codes, refl}
use Rattle.udp1_packets.specs.Views.{packet_of}
use Rattle.mt_show.specs.Answer.{packet, refused}
use Rattle.mt_show.specs.Words.{packet_words, refusal_words}
use Rattle.mt_show.specs.Steps.{behind}
use Rattle.mt_show.proofs.Joining.{more}
use Rattle.mt_show.proofs.whole.show_first.Goals as goal

pub returns-in_ok-packet-in-Ok : goal.returns-in_ok-packet-in-Ok
returns-in_ok-packet-in-Ok c = record {
  words = packet_words (packet_of c.in-Ok.spelled);
  shown = packet (packet_of c.in-Ok.spelled) c.in-Ok.ensures.found refl;
  added = more (codes "v1") (behind 32 (packet_words (packet_of c.in-Ok.spelled))) c.args.out.now.bytes.items c.put.new.self.bytes.items c.packet.new.out.bytes.items c.in_ok-put.ensures c.in_ok-packet-in-Ok.ensures;
}

pub returns-in_ok-refusal-in-Err : goal.returns-in_ok-refusal-in-Err
returns-in_ok-refusal-in-Err c = record {
  words = refusal_words c.in-Err.fault;
  shown = refused c.in-Err.fault c.in-Err.ensures.refused refl;
  added = more (codes "v1") (behind 32 (refusal_words c.in-Err.fault)) c.args.out.now.bytes.items c.put.new.self.bytes.items c.refusal.new.out.bytes.items c.in_ok-put.ensures c.in_ok-refusal-in-Err.ensures;
}
