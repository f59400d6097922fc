use Rattle.std.proofs.Common.{sym, subst}
use Rattle.end_session.specs.Standing.{Stands}
use Rattle.end_session.specs.contracts.session.Session.{the_view}
use Rattle.end_session.proofs.MessagesTaken.{if_taken, lawful}
use Rattle.end_session.proofs.session.Session.take.Goals as goal

pub invariant_of-self : goal.invariant_of-self
invariant_of-self c = lawful (the_view c.self.inside) c.args.id c.take.new.self c.take.result c.take.ensures.taken c.take.ensures.oldest c.take.ensures.none c.self.invariant

pub returns-clause-taken : goal.returns-clause-taken
returns-clause-taken c t gone st =
    if_taken (the_view c.self.inside) t gone c.args.id c.take.new.self c.take.result c.take.ensures.taken c.take.ensures.oldest (subst (λ s. Stands s t gone) (sym c.self.view_is) st)
