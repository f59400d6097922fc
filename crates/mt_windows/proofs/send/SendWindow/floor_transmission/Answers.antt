use Rattle.std.proofs.Common.{sym, ap, subst, arith}
use Rattle.mt_windows.specs.declared.flight.Flight.{Flight}
use Rattle.mt_windows.specs.SendingView.{Sends}
use Rattle.mt_windows.proofs.InFlight.{floor_some, floor_none}
use Rattle.mt_windows.proofs.send.SendWindow.floor_transmission.Goals as goal

pub returns-then-self : goal.returns-then-self
returns-then-self g c first t h =
    floor_some _ first t _ _ (subst (λ w. Sends w first t) (sym c.self.view_is) h) c.if-self.true (ap (λ (f : Flight). f.earliest) c.get.ensures) (omega (arith, c.max.ensures, c.saturating_sub.ensures))

pub returns-else-self : goal.returns-else-self
returns-else-self g c first t h = floor_none _ first t (subst (λ w. Sends w first t) (sym c.self.view_is) h) c.self.invariant.sound.base_bound c.if-self.false
