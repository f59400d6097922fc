use Rattle.std.proofs.Common.{◌≡◌, sym, ap, subst, ◌∙◌}
use Rattle.mt_base.specs.declared.kinds.Role.TheVariants.{Client}
use Rattle.mt_endpoint.specs.Growing.{answered}
use Rattle.end_session.specs.Standing.{Stands}
use Rattle.end_session.specs.Store.{Store}
use Rattle.end_session.proofs.Added.{answered_longer, answered_same}
use Rattle.end_session.proofs.session.Session.answer_as_client.Goals as goal

pub returns-in-Client-clause-answered : goal.returns-in-Client-clause-answered
returns-in-Client-clause-answered c t gone st =
    let is : c.args.self.now.role ≡ Client = sym (ap (λ (s : Store). s.role) c.self.view_is) ∙ c.in-Client.is in
    subst (λ r. Stands c.answer_all.new.self (answered r t) gone) (sym is) (c.answer_all.ensures.answered t gone st)

pub returns-in-Client-clause-written : goal.returns-in-Client-clause-written
returns-in-Client-clause-written c =
    let is : c.args.self.now.role ≡ Client = sym (ap (λ (s : Store). s.role) c.self.view_is) ∙ c.in-Client.is in
    let w = c.self.invariant in
    let st = subst (λ s. Stands s w.0.0 w.0.1) c.self.view_is w.0.2 in
    answered_longer c.args.self.now c.answer_all.new.self w.0.0 w.0.1 c.answer_all.ensures.same.0 st (subst (λ r. Stands c.answer_all.new.self (answered r w.0.0) w.0.1) (sym is) (c.answer_all.ensures.answered w.0.0 w.0.1 st))

pub returns-in-Client-clause-links : goal.returns-in-Client-clause-links
returns-in-Client-clause-links c kind =
    let is : c.args.self.now.role ≡ Client = sym (ap (λ (s : Store). s.role) c.self.view_is) ∙ c.in-Client.is in
    let w = c.self.invariant in
    let st = subst (λ s. Stands s w.0.0 w.0.1) c.self.view_is w.0.2 in
    answered_same c.args.self.now c.answer_all.new.self w.0.0 w.0.1 c.answer_all.ensures.same.0 st (subst (λ r. Stands c.answer_all.new.self (answered r w.0.0) w.0.1) (sym is) (c.answer_all.ensures.answered w.0.0 w.0.1 st)) kind
