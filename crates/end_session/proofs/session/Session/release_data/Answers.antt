use Rattle.std.proofs.Common.{true, false, sym, ap, subst, ◌∙◌}
use Rattle.mt_base.specs.Trace.{Trace}
use Rattle.dvc_pdus.specs.Views.{pdu_of}
use Rattle.mt_endpoint.specs.Acts.{Act}
use Rattle.mt_endpoint.specs.Faults.{release_fault}
use Rattle.end_session.specs.Causes.{why_of}
use Rattle.end_session.specs.Releasing.{Released}
use Rattle.end_session.specs.Standing.{Gone, Stands}
use Rattle.end_session.specs.Store.{Store}
use Rattle.end_session.specs.contracts.session.Session.{the_view}
use Rattle.end_session.proofs.Freed.{IsAsked, found_by, if_dropped, if_taken, lawful_by}
use Rattle.end_session.proofs.session.Session.release_data.Goals as goal

pub returns-then-not-is_dropped-clause-refused : goal.returns-then-not-is_dropped-clause-refused
returns-then-not-is_dropped-clause-refused c t gone st =
    ap (λ (s : Store). release_fault s.role t (pdu_of c.args.pdu.now)) (sym c.self.view_is)
    ∙ found_by (the_view c.self.inside) t gone c.args.id (pdu_of c.args.pdu.now) c.accept.result c.in-Err.why c.requires.brings c.in-Err.is c.accept.ensures.answer (subst (λ s. Stands s t gone) (sym c.self.view_is) st)
    ∙ ap why_of (sym c.from-cause.ensures)

-- the end that it leaves, which stands for one act more
by_drop : (c : goal.After-forget) (t : Trace Act) (gone : Gone) → Stands (the_view c.self.inside) t gone
    → Released c.args.kind c.args.id (pdu_of c.args.pdu.now) t gone (record (the_view c.self.inside) { channels = c.accept.new.self; held_reliable = c.forget.new.reliable; held_lossy = c.forget.new.lossy }) false
by_drop c t gone st =
    if_dropped (the_view c.self.inside) t gone c.args.kind c.args.id (pdu_of c.args.pdu.now) c.accept.result c.in-Err.why c.from-cause.result c.accept.new.self c.forget.new.reliable c.forget.new.lossy
    (subst (IsAsked c.args.kind c.args.id (pdu_of c.args.pdu.now)) (sym c.self.view_is)
    (record { word = c.requires.word; fresh = c.requires.fresh; oldest = c.requires.oldest; brings = c.requires.brings }))
    c.in-Err.is c.from-cause.ensures (sym c.is_dropped.ensures ∙ c.if-not-is_dropped.false) c.in-Err.ensures.unchanged c.accept.ensures.answer c.forget.ensures.reliable c.forget.ensures.lossy st

by_take : (c : goal.After-forget-2) (t : Trace Act) (gone : Gone) → Stands (the_view c.self.inside) t gone
    → Released c.args.kind c.args.id (pdu_of c.args.pdu.now) t gone (record (the_view c.self.inside) { channels = c.accept.new.self; held_reliable = c.forget-2.new.reliable; held_lossy = c.forget-2.new.lossy }) true
by_take c t gone st =
    if_taken (the_view c.self.inside) t gone c.args.kind c.args.id (pdu_of c.args.pdu.now) c.accept.result c.in_default.field-0 c.accept.new.self c.forget-2.new.reliable c.forget-2.new.lossy
    (subst (IsAsked c.args.kind c.args.id (pdu_of c.args.pdu.now)) (sym c.self.view_is)
    (record { word = c.requires.word; fresh = c.requires.fresh; oldest = c.requires.oldest; brings = c.requires.brings }))
    c.in_default.is c.accept.ensures.answer c.accept.ensures.came c.forget-2.ensures.reliable c.forget-2.ensures.lossy st

pub returns-in-Err-clause-released : goal.returns-in-Err-clause-released
returns-in-Err-clause-released c t gone st = by_drop c t gone (subst (λ s. Stands s t gone) (sym c.self.view_is) st)

pub returns-clause-released : goal.returns-clause-released
returns-clause-released c t gone st = by_take c t gone (subst (λ s. Stands s t gone) (sym c.self.view_is) st)

pub invariant_of-self-in-Err : goal.invariant_of-self-in-Err
invariant_of-self-in-Err c =
    let w = c.self.invariant in
    lawful_by c.args.kind c.args.id (pdu_of c.args.pdu.now) w.0.0 w.0.1 _ false (by_drop c w.0.0 w.0.1 w.0.2) w.1

pub invariant_of-self-2 : goal.invariant_of-self-2
invariant_of-self-2 c =
    let w = c.self.invariant in
    lawful_by c.args.kind c.args.id (pdu_of c.args.pdu.now) w.0.0 w.0.1 _ true (by_take c w.0.0 w.0.1 w.0.2) w.1
