use Rattle.std.proofs.Common.{sym, subst}
use Rattle.udp_open.specs.OpeningView.{Follows}
use Rattle.udp_open.proofs.LinkSteps.{answers_same}
use Rattle.lossy_mode.specs.LossyView.{Lossy}
use Rattle.lossy_mode.proofs.link.LossyCore.pass.Goals as goal

pub returns-clause-follows : goal.returns-clause-follows
returns-clause-follows c t h =
    let now = subst (λ (l : Lossy). Follows l.opening t) (sym c.self.view_is) h in
    (c.input.result, c.input.ensures.follows t c.input.result now (answers_same c.input.result))
