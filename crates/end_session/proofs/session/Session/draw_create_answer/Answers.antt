use Rattle.std.proofs.Common.{ℕ, ◌+◌, ◌≤◌, length, sym, ap, subst, ◌∙◌}
use Rattle.mt_base.specs.Trace.{Trace, ◌▷◌}
use Rattle.mt_endpoint.specs.Acts.{Act, Draws, CreateAnswered}
use Rattle.end_session.specs.Outgoing.{waiting_for}
use Rattle.end_session.specs.Standing.{Gone, Stands}
use Rattle.end_session.specs.Store.{Store}
use Rattle.end_session.specs.contracts.session.Session.{the_view}
use Rattle.end_session.proofs.Drawn.{answered_lossy, answered_reliable, comes, fine_inside}
use Rattle.end_session.proofs.Wrote.{first_for, first_short}
use Rattle.end_session.proofs.session.Session.draw_create_answer.Goals as goal

-- the end that it leaves, which stands for one act more
by_reliable : (c : goal.After-take_answer) (t : Trace Act) (gone : Gone) (at : ℕ) → Stands c.args.self.now t gone
    → Stands (record (the_view c.self.inside) { reliable = c.take_answer.new.tunnel; paths = c.take_answer.new.paths; outgoing = c.tell_first.new.outgoing }) (t ▷ Draws c.args.kind at (CreateAnswered c.args.hr)) gone
by_reliable c t gone at st =
    let fine = comes c.args.self.now c.args.kind t c.args.hr c.is_answer_unexpected.result (c.is_answer_unexpected.ensures t gone c.args.hr st) c.if-is_answer_unexpected.false in
    answered_reliable (the_view c.self.inside) t gone c.args.kind at c.args.hr c.take_answer.new.tunnel c.take_answer.new.paths c.tell_first.new.outgoing c.in-Reliable.is
    (fine_inside c.args.self.now (the_view c.self.inside) c.args.kind t (CreateAnswered c.args.hr) c.self.view_is fine) c.take_answer.ensures.tunnel c.take_answer.ensures.paths c.tell_first.ensures
    (subst (λ s. Stands s t gone) (sym c.self.view_is) st)

by_lossy : (c : goal.After-take_answer-in-Lossy) (t : Trace Act) (gone : Gone) (at : ℕ) → Stands c.args.self.now t gone
    → Stands (record (the_view c.self.inside) { lossy = c.take_answer-in-Lossy.new.tunnel; paths = c.take_answer-in-Lossy.new.paths; outgoing = c.tell_first-in-Lossy.new.outgoing }) (t ▷ Draws c.args.kind at (CreateAnswered c.args.hr)) gone
by_lossy c t gone at st =
    answered_lossy (the_view c.self.inside) t gone c.args.kind at c.args.hr c.take_answer-in-Lossy.new.tunnel c.take_answer-in-Lossy.new.paths c.tell_first-in-Lossy.new.outgoing c.in-Lossy.is
    c.take_answer-in-Lossy.ensures.tunnel c.take_answer-in-Lossy.ensures.paths c.tell_first-in-Lossy.ensures (subst (λ s. Stands s t gone) (sym c.self.view_is) st)

pub returns-in-Reliable-clause-heard : goal.returns-in-Reliable-clause-heard
returns-in-Reliable-clause-heard c t gone at st =
    (comes c.args.self.now c.args.kind t c.args.hr c.is_answer_unexpected.result (c.is_answer_unexpected.ensures t gone c.args.hr st) c.if-is_answer_unexpected.false, by_reliable c t gone at st)

pub returns-in-Lossy-clause-heard : goal.returns-in-Lossy-clause-heard
returns-in-Lossy-clause-heard c t gone at st =
    (comes c.args.self.now c.args.kind t c.args.hr c.is_answer_unexpected.result (c.is_answer_unexpected.ensures t gone c.args.hr st) c.if-is_answer_unexpected.false, by_lossy c t gone at st)

pub invariant_of-self : goal.invariant_of-self
invariant_of-self c =
    let w = c.self.invariant in
    ((w.0.0 ▷ Draws c.args.kind 0 (CreateAnswered c.args.hr), w.0.1, by_reliable c w.0.0 w.0.1 0 (subst (λ s. Stands s w.0.0 w.0.1) c.self.view_is w.0.2)), w.1)

pub invariant_of-self-in-Lossy : goal.invariant_of-self-in-Lossy
invariant_of-self-in-Lossy c =
    let w = c.self.invariant in
    ((w.0.0 ▷ Draws c.args.kind 0 (CreateAnswered c.args.hr), w.0.1, by_lossy c w.0.0 w.0.1 0 (subst (λ s. Stands s w.0.0 w.0.1) c.self.view_is w.0.2)), w.1)

pub returns-in-Reliable-clause-written : goal.returns-in-Reliable-clause-written
returns-in-Reliable-clause-written c =
    let s = the_view c.self.inside in
    subst (λ (x : Store). length (c.tell_first.new.outgoing).main ≤ length (x.outgoing).main + 11) c.self.view_is (first_short s.role (s.reliable).answer (s.reliable).asked c.args.hr s.outgoing c.tell_first.new.outgoing c.tell_first.ensures)

pub returns-in-Reliable-clause-links : goal.returns-in-Reliable-clause-links
returns-in-Reliable-clause-links c made =
    let s = the_view c.self.inside in
    first_for s.role (s.reliable).answer (s.reliable).asked c.args.hr s.outgoing c.tell_first.new.outgoing c.tell_first.ensures made ∙ ap (λ (x : Store). waiting_for made x.outgoing) c.self.view_is

pub returns-in-Lossy-clause-written : goal.returns-in-Lossy-clause-written
returns-in-Lossy-clause-written c =
    let s = the_view c.self.inside in
    subst (λ (x : Store). length (c.tell_first-in-Lossy.new.outgoing).main ≤ length (x.outgoing).main + 11) c.self.view_is (first_short s.role (s.lossy).answer (s.lossy).asked c.args.hr s.outgoing c.tell_first-in-Lossy.new.outgoing c.tell_first-in-Lossy.ensures)

pub returns-in-Lossy-clause-links : goal.returns-in-Lossy-clause-links
returns-in-Lossy-clause-links c made =
    let s = the_view c.self.inside in
    first_for s.role (s.lossy).answer (s.lossy).asked c.args.hr s.outgoing c.tell_first-in-Lossy.new.outgoing c.tell_first-in-Lossy.ensures made ∙ ap (λ (x : Store). waiting_for made x.outgoing) c.self.view_is
