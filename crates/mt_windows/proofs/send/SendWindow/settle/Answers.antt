use Rattle.std.proofs.Common.{◌&&◌, not, eqb, ◌+◌, sym, ap, subst, arith}
use Rattle.mt_windows.specs.SendingView.{Flying, queued_of}
use Rattle.mt_windows.proofs.InFlight.{flying_landed, landed_less}
use Rattle.mt_windows.proofs.send.SendWindow.settle.Goals as goal

pub returns-clause-flying : goal.returns-clause-flying
returns-clause-flying g c bytes opens early late h =
    let w = c.args.self.now in
    c.pass_settled.ensures.flying bytes (λ p. opens p && not (eqb p (w.base + c.args.ahead))) early late
    (subst (λ v. Flying v.flights v.base bytes (λ p. opens p && not (eqb p (w.base + c.args.ahead))) early late) (sym c.land.ensures.landed)
    (flying_landed w.flights w.base c.args.ahead bytes opens early late c.land.ensures.within h))

pub returns-clause-queued : goal.returns-clause-queued
returns-clause-queued g c =
    omega (arith, c.pass_settled.ensures.queued, ap queued_of c.land.ensures.landed, landed_less c.args.self.now c.args.ahead c.land.ensures.within)
