use Rattle.std.proofs.Common.{◌≡◌, sym, subst}
use Rattle.udp_open.specs.LinkView.{Link, StandsLink}
use Rattle.udp_open.specs.OfTrace.{queued_after}
use Rattle.udp_open.proofs.OfTrace.{queued_is}
use Rattle.udp_open.proofs.link.UdpLinkCarrier.queued.Goals as goal

pub returns-clause-history : goal.returns-clause-history
returns-clause-history c t h =
    let i = c.self.inside in
    let l : Link = record { opening = i.opening; core = i.core } in
    let now = subst (λ (l : Link). StandsLink l t) (sym c.self.view_is) h in
    subst (λ (l : Link). c.queued.result ≡ queued_after (l.opening).settings t) c.self.view_is
    (queued_is l t c.queued.result c.queued.ensures.history now)
