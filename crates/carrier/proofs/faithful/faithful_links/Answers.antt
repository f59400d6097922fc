use Rattle.std.proofs.Common.{arith}
use Rattle.carrier.specs.Sending.{acts}
use Rattle.carrier.proofs.links.Steps.{cuts_within}
use Rattle.carrier.proofs.links.OneEnd.{one_end}
use Rattle.carrier.proofs.links.Carries.{in_order, parts_given, pulled_passed, sends_next, shows_meant, tells_received}
use Rattle.carrier.proofs.faithful.faithful_links.Goals as goal

pub returns-clause-next : goal.returns-clause-next
returns-clause-next c layout t asks law now d load is has = sends_next layout asks t law now d load is has

pub returns-clause-shows : goal.returns-clause-shows
returns-clause-shows c layout t asks law now d is = shows_meant layout asks t law now d is

pub returns-clause-numbers : goal.returns-clause-numbers
returns-clause-numbers c layout t asks law = in_order layout asks t law

pub returns-clause-pieces : goal.returns-clause-pieces
returns-clause-pieces c layout t asks law = parts_given layout asks t law

pub returns-clause-told : goal.returns-clause-told
returns-clause-told c layout t asks law now d is n le told = tells_received layout asks t law now d is n le told

pub returns-clause-pulled : goal.returns-clause-pulled
returns-clause-pulled c layout t law = pulled_passed layout t law

pub returns-clause-queue : goal.returns-clause-queue
returns-clause-queue c layout t asks law = (one_end layout asks t law).queue

pub returns-clause-window : goal.returns-clause-window
returns-clause-window c layout t asks law p less =
    omega (arith, less, cuts_within layout.bounds.windows layout.own (acts layout t) (one_end layout asks t law).even)

pub returns-clause-reach : goal.returns-clause-reach
returns-clause-reach c layout t asks law = (one_end layout asks t law).even.reaches
