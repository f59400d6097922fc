use Rattle.std.proofs.Common.{◌∙◌, ap, arith}
use Rattle.end_session.specs.Store.{Store}
use Rattle.end_session.specs.contracts.session.Session.{the_view}
use Rattle.end_session.proofs.ChannelsOpened.{few_made}
use Rattle.end_session.proofs.session.Session.next_id.Goals as goal

pub overflow_cast-result : goal.overflow_cast-result
overflow_cast-result c =
    omega (arith, few_made (the_view c.self.inside) c.made.result (ap (λ (s : Store). s.role) c.self.view_is ∙ c.requires) c.self.invariant c.made.ensures)

pub overflow_add-result : goal.overflow_add-result
overflow_add-result c =
    omega (arith, few_made (the_view c.self.inside) c.made.result (ap (λ (s : Store). s.role) c.self.view_is ∙ c.requires) c.self.invariant c.made.ensures)
