use Rattle.std.proofs.Common.{sym, ap, ◌∙◌, length}
use Rattle.udp_open.proofs.LinkSteps.{none_at, pulls_none}
use Rattle.udp_open.specs.LinkView.{Link}
use Rattle.udp_open.proofs.link.UdpLinkCarrier.pull.Goals as goal

pub returns-in-Waiting-clause-trace : goal.returns-in-Waiting-clause-trace
returns-in-Waiting-clause-trace c t h =
    let none = none_at (c.self.inside).opening.agreement (sym c.end.ensures.value ∙ c.in-Waiting.is) in
    pulls_none c.args.self.now t (length c.args.out.now) (ap (λ (l : Link). (l.opening).agreement) (sym c.self.view_is) ∙ none) h
