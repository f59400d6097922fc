use Rattle.std.proofs.Common.{codes, length, refl}
use Rattle.tunnel_pdus.specs.Views.{pdu_of}
use Rattle.tunnel_pdus.specs.Reading.{seen}
use Rattle.mt_show.specs.StreamWords.{pdu_words, front_words}
use Rattle.mt_show.specs.Steps.{behind}
use Rattle.mt_show.proofs.Joining.{more}
use Rattle.mt_show.proofs.whole.show_tunnel.Goals as goal

pub returns : goal.returns
returns c = record {
  words = front_words pdu_words (length c.args.bytes.now) (seen pdu_of c.read_tunnel.result);
  shown = (seen pdu_of c.read_tunnel.result, c.read_tunnel.ensures.found, refl);
  added = more (codes "tunnel") (behind 32 (front_words pdu_words (length c.args.bytes.now) (seen pdu_of c.read_tunnel.result))) c.args.out.now.bytes.items c.put.new.self.bytes.items c.tunnel_front.new.out.bytes.items c.in_ok-put.ensures c.in_ok-tunnel_front.ensures;
}
