use Rattle.std.proofs.Common.{◌++◌, take, sym, subst}
use Rattle.end_session.specs.Standing.{Stands}
use Rattle.end_session.specs.Store.{Store}
use Rattle.end_session.specs.contracts.session.Session.{the_view}
use Rattle.end_session.proofs.BytesHanded.{handed}
use Rattle.end_session.proofs.session.Session.main_out.Goals as goal

pub returns-clause-stands : goal.returns-clause-stands
returns-clause-stands c t gone st =
    subst (λ (s : Store). Stands (record (the_view c.self.inside) { outgoing = c.take_main.new.self }) t (record gone { main = gone.main ++ take c.take_main.result (s.outgoing).main })) c.self.view_is
    (handed (the_view c.self.inside) t gone c.take_main.result c.take_main.new.self c.take_main.ensures.left (subst (λ s. Stands s t gone) (sym c.self.view_is) st))

pub invariant_of-self : goal.invariant_of-self
invariant_of-self c =
    let w = c.self.invariant in
    ((w.0.0, _, handed (the_view c.self.inside) w.0.0 w.0.1 c.take_main.result c.take_main.new.self c.take_main.ensures.left w.0.2), w.1)
