use Rattle.std.proofs.Common.{sym, subst}
use Rattle.capture_check.specs.TellingsSoFar.{ShowsJust}
use Rattle.capture_check.proofs.layout.Layout.shown.Goals as goal

pub returns-in-First : goal.returns-in-First
returns-in-First c = subst (λ l. ShowsJust l c.args.datagram.now c.first_shown.result) (sym c.in-First.is) c.first_shown.ensures

pub returns-in-Second : goal.returns-in-Second
returns-in-Second c = subst (λ l. ShowsJust l c.args.datagram.now c.second_shown.result) (sym c.in-Second.is) c.second_shown.ensures
