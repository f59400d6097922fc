use Rattle.std.proofs.Common.{sym, subst}
use Rattle.mt_windows.specs.SendingView.{Sends}
use Rattle.mt_windows.proofs.InFlight.{lowest_some, lowest_none, lowest_empty}
use Rattle.mt_windows.proofs.send.SendWindow.lowest.Goals as goal
use Rattle.mt_windows.proofs.send.SendWindow.lowest.Goals.{else-self-via-then-self+else-is_filled, else-self-via-else-self}

pub returns-then-is_filled-clause-history : goal.returns-then-is_filled-clause-history
returns-then-is_filled-clause-history g c first t h = lowest_some _ first t (subst (λ w. Sends w first t) (sym c.self.view_is) h) c.if-self.true

pub returns-else-self-clause-history : goal.returns-else-self-clause-history
returns-else-self-clause-history g c first t h =
    let now = subst (λ w. Sends w first t) (sym c.self.view_is) h in
    elim c.else-self.branch [
      | else-self-via-then-self+else-is_filled w ↦ lowest_empty _ first t w.get.result.now now w.get.ensures (sym w.if-is_filled.ensures)
      | else-self-via-else-self w ↦ lowest_none _ first t now w.if-self.false
    ]
