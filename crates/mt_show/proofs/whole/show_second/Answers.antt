use Rattle.std.proofs.Common.{codes, refl}
use Rattle.udp2_packets.specs.Views.{packet_of}
use Rattle.mt_show.specs.Answer.{second_packet, second_refused}
use Rattle.mt_show.specs.SecondWords.{second_words, second_refusal_words}
use Rattle.mt_show.specs.Steps.{behind}
use Rattle.mt_show.proofs.Joining.{more}
use Rattle.mt_show.proofs.whole.show_second.Goals as goal

pub returns-in_ok-second_packet-in-Ok : goal.returns-in_ok-second_packet-in-Ok
returns-in_ok-second_packet-in-Ok c = record {
  words = second_words (packet_of c.in-Ok.spelled);
  shown = second_packet (packet_of c.in-Ok.spelled) c.in-Ok.ensures.found refl;
  added = more (codes "v2") (behind 32 (second_words (packet_of c.in-Ok.spelled))) c.args.out.now.bytes.items c.put.new.self.bytes.items c.second_packet.new.out.bytes.items c.in_ok-put.ensures c.in_ok-second_packet-in-Ok.ensures;
}

pub returns-in_ok-second_refusal-in-Err : goal.returns-in_ok-second_refusal-in-Err
returns-in_ok-second_refusal-in-Err c = record {
  words = second_refusal_words c.in-Err.fault;
  shown = second_refused c.in-Err.fault c.in-Err.ensures.refused refl;
  added = more (codes "v2") (behind 32 (second_refusal_words c.in-Err.fault)) c.args.out.now.bytes.items c.put.new.self.bytes.items c.second_refusal.new.out.bytes.items c.in_ok-put.ensures c.in_ok-second_refusal-in-Err.ensures;
}
