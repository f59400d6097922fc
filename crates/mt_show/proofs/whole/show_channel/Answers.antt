use Rattle.std.proofs.Common.{codes, refl}
use Rattle.dvc_pdus.specs.Views.{pdu_of}
use Rattle.mt_show.specs.Answer.{channel, channel_refused}
use Rattle.mt_show.specs.ChannelWords.{channel_words, channel_refusal_words}
use Rattle.mt_show.specs.Steps.{behind}
use Rattle.mt_show.proofs.Joining.{more}
use Rattle.mt_show.proofs.whole.show_channel.Goals as goal

pub returns-in_ok-channel_pdu-in-Ok : goal.returns-in_ok-channel_pdu-in-Ok
returns-in_ok-channel_pdu-in-Ok c = record {
  words = channel_words (pdu_of c.in-Ok.spelled);
  shown = channel (pdu_of c.in-Ok.spelled) c.in-Ok.ensures.found refl;
  added = more (codes "dvc") (behind 32 (channel_words (pdu_of c.in-Ok.spelled))) c.args.out.now.bytes.items c.put.new.self.bytes.items c.channel_pdu.new.out.bytes.items c.in_ok-put.ensures c.in_ok-channel_pdu-in-Ok.ensures;
}

pub returns-in_ok-channel_refusal-in-Err : goal.returns-in_ok-channel_refusal-in-Err
returns-in_ok-channel_refusal-in-Err c = record {
  words = channel_refusal_words c.in-Err.fault;
  shown = channel_refused c.in-Err.fault c.in-Err.ensures.refused refl;
  added = more (codes "dvc") (behind 32 (channel_refusal_words c.in-Err.fault)) c.args.out.now.bytes.items c.put.new.self.bytes.items c.channel_refusal.new.out.bytes.items c.in_ok-put.ensures c.in_ok-channel_refusal-in-Err.ensures;
}
