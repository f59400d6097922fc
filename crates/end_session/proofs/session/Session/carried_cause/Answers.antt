use Rattle.std.proofs.Common.{sym, subst, ◌∙◌}
use Rattle.end_session.specs.Standing.{Stands}
use Rattle.end_session.specs.contracts.session.Session.{the_view}
use Rattle.end_session.proofs.Drawn.{fault_outside}
use Rattle.end_session.proofs.Kept.{of_channel, of_none, unopened}
use Rattle.end_session.proofs.session.Session.carried_cause.Goals as goal

pub returns-then-not-is_open-clause-refused : goal.returns-then-not-is_open-clause-refused
returns-then-not-is_open-clause-refused c t gone bytes st =
    fault_outside c.args.self.now (the_view c.self.inside) c.args.kind t _ c.self.view_is
    (unopened (the_view c.self.inside) t gone c.args.kind bytes _ c.in-Reliable.is (sym c.is_open.ensures ∙ c.if-not-is_open.true) (subst (λ s. Stands s t gone) (sym c.self.view_is) st))

pub returns-in_default-clause-refused : goal.returns-in_default-clause-refused
returns-in_default-clause-refused c t gone bytes st =
    fault_outside c.args.self.now (the_view c.self.inside) c.args.kind t _ c.self.view_is
    (of_none (the_view c.self.inside) t gone c.args.kind bytes _ c.in-Reliable.is (sym c.is_open.ensures ∙ c.if-not-is_open.false) (sym c.channel_of.ensures ∙ c.in_default.is)
    (subst (λ s. Stands s t gone) (sym c.self.view_is) st))

pub returns-then-is_taken-clause-allowed : goal.returns-then-is_taken-clause-allowed
returns-then-is_taken-clause-allowed c t gone bytes st =
    fault_outside c.args.self.now (the_view c.self.inside) c.args.kind t _ c.self.view_is
    (of_channel (the_view c.self.inside) t gone c.args.kind bytes _ c.in-Some.id c.state.result _ c.in-Reliable.is (sym c.is_open.ensures ∙ c.if-not-is_open.false) (sym c.channel_of.ensures ∙ c.in-Some.is)
    c.state.ensures (sym c.is_taken.ensures ∙ c.if-is_taken.true) (subst (λ s. Stands s t gone) (sym c.self.view_is) st))

pub returns-else-is_taken-clause-refused : goal.returns-else-is_taken-clause-refused
returns-else-is_taken-clause-refused c t gone bytes st =
    fault_outside c.args.self.now (the_view c.self.inside) c.args.kind t _ c.self.view_is
    (of_channel (the_view c.self.inside) t gone c.args.kind bytes _ c.in-Some.id c.state.result _ c.in-Reliable.is (sym c.is_open.ensures ∙ c.if-not-is_open.false) (sym c.channel_of.ensures ∙ c.in-Some.is)
    c.state.ensures (sym c.is_taken.ensures ∙ c.if-is_taken.false) (subst (λ s. Stands s t gone) (sym c.self.view_is) st))
