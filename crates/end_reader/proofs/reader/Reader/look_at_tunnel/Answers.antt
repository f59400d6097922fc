use Rattle.std.proofs.Common.{Ok, sym, ap, ◌∙◌}
use Rattle.tunnel_pdus.specs.Reading.{reading, seen}
use Rattle.tunnel_pdus.specs.Views.{pdu_of}
use Rattle.end_reader.proofs.TunnelRead.{more_pulled, whole_pulled}
use Rattle.end_reader.proofs.reader.Reader.look_at_tunnel.Goals as goal

pub returns-in-Ok-More-clause-came : goal.returns-in-Ok-More-clause-came
returns-in-Ok-More-clause-came c p gone k =
    more_pulled c.args.self.now p gone _ k c.requires.whole (ap reading (sym c.bytes.ensures.bytes) ∙ sym c.in-Ok-More.ensures.exact ∙ ap (λ x. seen pdu_of (Ok x)) c.in-Ok-More.field-0-is)

pub returns-in-Ok-Whole-clause-came : goal.returns-in-Ok-Whole-clause-came
returns-in-Ok-Whole-clause-came c p gone k =
    whole_pulled c.args.self.now c.draw.new.self c.pass.new.self c.at.result p gone (pdu_of c.in-Ok-Whole.value) _ k
    (ap reading (sym c.bytes.ensures.bytes) ∙ sym c.in-Ok-Whole.ensures.exact ∙ ap (λ x. seen pdu_of (Ok x)) c.in-Ok-Whole.field-0-is) c.at.ensures c.draw.ensures.drawn c.pass.ensures c.draw.ensures.same
