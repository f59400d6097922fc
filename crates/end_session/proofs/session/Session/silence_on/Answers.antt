use Rattle.std.proofs.Common.{sym, ap, ◌∙◌}
use Rattle.soft_sync.specs.declared.kinds.Path.TheVariants.{Tunnel}
use Rattle.end_calls.specs.Refusing.{silence_on}
use Rattle.end_session.specs.Known.{Known}
use Rattle.end_session.specs.Store.{Store}
use Rattle.end_session.proofs.session.Session.silence_on.Goals as goal

pub returns-in-Reliable : goal.returns-in-Reliable
returns-in-Reliable c t gone st =
    c.silence.ensures ∙ ap (λ (s : Store). (s.reliable).silence) c.self.view_is ∙ ap (λ (k : Known). k.silence) (st.knows).reliable_is
    ∙ ap (silence_on t) (sym (c.in-Tunnel.is ∙ ap Tunnel c.in-Reliable.is))

pub returns-in-Lossy : goal.returns-in-Lossy
returns-in-Lossy c t gone st =
    c.silence-in-Lossy.ensures ∙ ap (λ (s : Store). (s.lossy).silence) c.self.view_is ∙ ap (λ (k : Known). k.silence) (st.knows).lossy_is
    ∙ ap (silence_on t) (sym (c.in-Tunnel.is ∙ ap Tunnel c.in-Lossy.is))
