use Rattle.std.proofs.Common.{Some, sym, ap, ◌∙◌}
use Rattle.udp_open.specs.OpeningView.{Handshake}
use Rattle.udp_open.specs.Handshake.{shown}
use Rattle.udp_open.proofs.Heard.{heard_same}
use Rattle.udp_open.proofs.opening.Opening.input.Goals as goal

pub returns-in-Ok-clause-stays : goal.returns-in-Ok-clause-stays
returns-in-Ok-clause-stays c a h =
    let i = c.self.inside in
    ap (λ (h : Handshake). h.agreement) c.agree.ensures
    ∙ ap Some (heard_same i.settings i.agreement (shown c.args.datagram.now) a c.in-Ok.agreement
    (ap (λ (h : Handshake). h.agreement) c.self.view_is ∙ h) (sym c.in-Ok.is ∙ c.hear.ensures.value))
