use Rattle.carrier.proofs.links.Closes.{closed_is_silent, expiries_bound, stays_closed}
use Rattle.carrier.proofs.faithful.links_close.Goals as goal

pub returns-clause-expiries : goal.returns-clause-expiries
returns-clause-expiries c layout t = expiries_bound layout t

pub returns-clause-silent : goal.returns-clause-silent
returns-clause-silent c layout t now is = closed_is_silent layout t now is

pub returns-clause-stays : goal.returns-clause-stays
returns-clause-stays c layout t e law is = stays_closed layout t e law is
