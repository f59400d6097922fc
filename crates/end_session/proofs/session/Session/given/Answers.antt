use Rattle.std.proofs.Common.{sym, subst}
use Rattle.end_session.specs.Giving.{all_given}
use Rattle.end_session.specs.Standing.{Stands}
use Rattle.end_session.specs.Store.{Store}
use Rattle.end_session.specs.contracts.session.Session.{the_view}
use Rattle.end_session.proofs.GivenOut.{gave}
use Rattle.end_session.proofs.session.Session.given.Goals as goal

pub returns-clause-stands : goal.returns-clause-stands
returns-clause-stands c t gone st =
    subst (λ (s : Store). Stands (record (the_view c.self.inside) { outgoing = c.clear.new.self }) t (all_given s.role c.args.kind t gone)) c.self.view_is
    (gave (the_view c.self.inside) t gone c.args.kind c.clear.new.self c.clear.ensures (subst (λ s. Stands s t gone) (sym c.self.view_is) st))

pub invariant_of-self : goal.invariant_of-self
invariant_of-self c =
    let w = c.self.invariant in
    ((w.0.0, _, gave (the_view c.self.inside) w.0.0 w.0.1 c.args.kind c.clear.new.self c.clear.ensures w.0.2), w.1)
