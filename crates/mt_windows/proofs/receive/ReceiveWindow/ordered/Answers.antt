use Rattle.std.proofs.Common.{sym, subst}
use Rattle.mt_windows.specs.ArrivedView.{Receives}
use Rattle.mt_windows.proofs.Order.{receives_left}
use Rattle.mt_windows.proofs.receive.ReceiveWindow.ordered.Goals as goal

pub returns-clause-history : goal.returns-clause-history
returns-clause-history g c first parts n h = receives_left _ first parts n (subst (λ w. Receives w first parts n) (sym c.self.view_is) h)
