use Rattle.std.proofs.Common.{codes, length, refl}
use Rattle.tunnel_pdus.specs.Views.{frame_of}
use Rattle.tunnel_pdus.specs.Reading.{seen}
use Rattle.mt_show.specs.StreamWords.{frame_words, front_words}
use Rattle.mt_show.specs.Steps.{behind}
use Rattle.mt_show.proofs.Joining.{more}
use Rattle.mt_show.proofs.whole.show_frame.Goals as goal

pub returns : goal.returns
returns c = record {
  words = front_words frame_words (length c.args.bytes.now) (seen frame_of c.read_frame.result);
  shown = (seen frame_of c.read_frame.result, c.read_frame.ensures.found, refl);
  added = more (codes "frame") (behind 32 (front_words frame_words (length c.args.bytes.now) (seen frame_of c.read_frame.result))) c.args.out.now.bytes.items c.put.new.self.bytes.items c.frame_front.new.out.bytes.items c.in_ok-put.ensures c.in_ok-frame_front.ensures;
}
