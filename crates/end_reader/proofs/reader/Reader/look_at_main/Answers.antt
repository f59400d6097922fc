use Rattle.std.proofs.Common.{Ok, sym, ap, ◌∙◌}
use Rattle.tunnel_pdus.specs.Reading.{frame_reading, seen}
use Rattle.tunnel_pdus.specs.Views.{frame_of}
use Rattle.end_reader.proofs.MainRead.{more_came, whole_came}
use Rattle.end_reader.proofs.reader.Reader.look_at_main.Goals as goal

pub returns-in-Ok-More-clause-came : goal.returns-in-Ok-More-clause-came
returns-in-Ok-More-clause-came c p gone k =
    more_came c.args.self.now p gone _ k c.requires.whole (ap frame_reading (sym c.bytes.ensures.bytes) ∙ sym c.in-Ok-More.ensures.exact ∙ ap (λ x. seen frame_of (Ok x)) c.in-Ok-More.field-0-is)

pub returns-in-Ok-Whole-clause-came : goal.returns-in-Ok-Whole-clause-came
returns-in-Ok-Whole-clause-came c p gone k =
    whole_came c.args.self.now c.hear.new.self c.pass.new.self c.at.result p gone (frame_of c.in-Ok-Whole.value) _ k
    (ap frame_reading (sym c.bytes.ensures.bytes) ∙ sym c.in-Ok-Whole.ensures.exact ∙ ap (λ x. seen frame_of (Ok x)) c.in-Ok-Whole.field-0-is) c.at.ensures c.hear.ensures.heard c.pass.ensures c.hear.ensures.same
