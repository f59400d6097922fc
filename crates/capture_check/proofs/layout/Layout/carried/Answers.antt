use Rattle.std.proofs.Common.{sym, subst}
use Rattle.std.specs.Option.{option_copied}
use Rattle.capture_check.specs.RequestsSoFar.{CarriesJust}
use Rattle.capture_check.proofs.layout.Layout.carried.Goals as goal

pub returns-in-First : goal.returns-in-First
returns-in-First c = subst (λ l. CarriesJust l c.args.datagram.now (option_copied c.first_carried.result)) (sym c.in-First.is) c.first_carried.ensures

pub returns-in-Second : goal.returns-in-Second
returns-in-Second c = subst (λ l. CarriesJust l c.args.datagram.now (option_copied c.second_carried.result)) (sym c.in-Second.is) c.second_carried.ensures
