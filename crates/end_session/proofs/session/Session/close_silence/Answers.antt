use Rattle.std.proofs.Common.{sym, ap, subst, ◌∙◌}
use Rattle.mt_endpoint.specs.Moving.{outward}
use Rattle.end_session.specs.Closing.{closing_path}
use Rattle.end_session.specs.Known.{Known}
use Rattle.end_session.specs.Standing.{Stands}
use Rattle.end_session.proofs.ChannelsClosed.{silent_main, silent_tunnel}
use Rattle.end_session.proofs.session.Session.close_silence.Goals as goal

pub returns-in-Main : goal.returns-in-Main
returns-in-Main c t gone st = silent_main t (outward c.args.id t) (sym c.in-Main.is ∙ c.close_path.ensures ∙ ap closing_path (c.outward.ensures t gone st))

pub returns-in-Tunnel : goal.returns-in-Tunnel
returns-in-Tunnel c t gone st =
    let here = subst (λ s. Stands s t gone) (sym c.self.view_is) st in
    c.silence.ensures ∙ ap (λ (k : Known). k.silence) (here.knows).reliable_is
    ∙ silent_tunnel t (outward c.args.id t) c.in-Tunnel.field-0 (sym c.in-Tunnel.is ∙ c.close_path.ensures ∙ ap closing_path (c.outward.ensures t gone st))
