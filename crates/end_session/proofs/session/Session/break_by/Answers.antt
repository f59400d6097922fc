use Rattle.std.proofs.Common.{Some, sym, subst}
use Rattle.end_session.specs.Standing.{Stands}
use Rattle.end_session.specs.contracts.session.Session.{the_view}
use Rattle.end_session.proofs.WholeHeard.{broken_stands}
use Rattle.end_session.proofs.session.Session.break_by.Goals as goal

pub returns-clause-stands : goal.returns-clause-stands
returns-clause-stands c t gone st =
    broken_stands (the_view c.self.inside) t gone (Some c.args.fault) (subst (λ s. Stands s t gone) (sym c.self.view_is) st)

pub invariant_of-self : goal.invariant_of-self
invariant_of-self c =
    let w = c.self.invariant in
    ((w.0.0, w.0.1, broken_stands (the_view c.self.inside) w.0.0 w.0.1 (Some c.args.fault) w.0.2), w.1)
