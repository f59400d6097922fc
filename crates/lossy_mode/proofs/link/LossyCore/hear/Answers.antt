use Rattle.std.proofs.Common.{sym, subst}
use Rattle.mt_base.specs.Trace.{◌▷◌}
use Rattle.carrier.specs.Entries.{In}
use Rattle.udp_open.specs.OpeningView.{Handshake, Follows}
use Rattle.udp_open.proofs.LinkSteps.{answers_same}
use Rattle.lossy_mode.specs.LossyView.{Lossy}
use Rattle.lossy_mode.proofs.link.LossyCore.hear.Goals as goal

pub returns-in-Used-clause-follows : goal.returns-in-Used-clause-follows
returns-in-Used-clause-follows c t h =
    let now = subst (λ (l : Lossy). Follows l.opening t) (sym c.self.view_is) h in
    subst (λ (o : Handshake). Follows o (t ▷ In c.args.now c.args.datagram.now c.input-took.result)) (sym c.owe_tellings.ensures.opening)
    (c.input-took.ensures.follows t _ now (answers_same _))

pub returns-in-Ignored-clause-follows : goal.returns-in-Ignored-clause-follows
returns-in-Ignored-clause-follows c t h =
    let now = subst (λ (l : Lossy). Follows l.opening t) (sym c.self.view_is) h in
    c.input-took.ensures.follows t _ now (answers_same _)
