use Rattle.std.proofs.Common.{◌≡◌, ℕ, ◌-◌, List, length, length-append, None, Some, IfSome, is_some, option_map, refl, sym, ap, subst, ◌∙◌, arith}
use Rattle.mt_base.specs.Writing.{joined}
use Rattle.mt_base.specs.Trace.{Trace, ◌▷◌}
use Rattle.soft_sync.specs.declared.kinds.Kinds.{Kinds}
use Rattle.soft_sync.specs.Exchanges.{behind}
use Rattle.tunnel_pdus.specs.Value.{Channel, frame_fields}
use Rattle.mt_endpoint.specs.Acts.{Act, Answers}
use Rattle.end_session.specs.AnswerDue.{due, with_due}
use Rattle.end_session.specs.Outgoing.{Outgoing}
use Rattle.end_session.specs.Standing.{Gone, Stands}
use Rattle.end_session.specs.Store.{Store}
use Rattle.end_session.specs.contracts.session.Session.{the_view}
use Rattle.end_session.proofs.AnswersMade.{answer_short, answered_here, at_least, some_owed}
use Rattle.end_session.proofs.ChannelsOpened.{frame_size_is}
use Rattle.end_session.proofs.session.Session.answer_sync.Goals as goal

none_due : (c : goal.In_default) (t : Trace Act) (gone : Gone) → Stands c.args.self.now t gone → due t ≡ None
none_due c t gone st = sym (c.answer_due.ensures.due t gone st) ∙ ap (option_map (λ (f : ℕ × Kinds). f.1)) c.in_default.is

pub returns-in_default-clause-answered : goal.returns-in_default-clause-answered
returns-in_default-clause-answered c t gone st = subst (λ o. Stands c.args.self.now (with_due o t) gone) (sym (none_due c t gone st)) st

pub returns-in_default-clause-due : goal.returns-in_default-clause-due
returns-in_default-clause-due c t gone st = sym (ap is_some (none_due c t gone st))

pub give-requires : goal.give-requires
give-requires c =
    let s = c.args.self.now in
    let number = subst (λ r. IfSome r (λ (f : ℕ × Kinds). behind (s.paths).read ≡ Some f.0)) c.in-Some.is c.answer_due.ensures.number in
    omega (arith, (at_least 0 c.in-Some.due.0 c.self.inside.paths.read (ap (λ (s : Store). behind (s.paths).read) c.self.view_is ∙ number)).1)

pub overflow_sub-self : goal.overflow_sub-self
overflow_sub-self c =
    let w = c.self.invariant in
    let s = c.args.self.now in
    let st = subst (λ s. Stands s w.0.0 w.0.1) c.self.view_is w.0.2 in
    let due_is = sym (c.answer_due.ensures.due w.0.0 w.0.1 st) ∙ ap (option_map (λ (f : ℕ × Kinds). f.1)) c.in-Some.is in
    omega (arith, some_owed s w.0.0 w.0.1 c.in-Some.due.1 c.requires.client st due_is, ap (λ (s : Store). s.owed) c.self.view_is)

due_one : (c : goal.After-say) (t : Trace Act) (gone : Gone) → Stands c.args.self.now t gone → due t ≡ Some c.in-Some.due.1
due_one c t gone st = sym (c.answer_due.ensures.due t gone st) ∙ ap (option_map (λ (f : ℕ × Kinds). f.1)) c.in-Some.is

-- the end that it leaves, which stands for one act more
stands : (c : goal.After-say) (t : Trace Act) (gone : Gone) → Stands c.args.self.now t gone
    → Stands (record (the_view c.self.inside) { paths = c.give.new.paths; owed = c.self.inside.owed - 1; outgoing = c.say.new.self }) (t ▷ Answers c.in-Some.due.1) gone
stands c t gone st =
    let s = c.args.self.now in
    let number = subst (λ r. IfSome r (λ (f : ℕ × Kinds). behind (s.paths).read ≡ Some f.0)) c.in-Some.is c.answer_due.ensures.number in
    answered_here (the_view c.self.inside) t gone c.in-Some.due.0 c.in-Some.due.1 c.bytes.result.now c.give.new.paths (c.self.inside.owed - 1) c.say.new.self
    (ap (λ (s : Store). s.role) c.self.view_is ∙ c.requires.client) (subst (λ s. Stands s t gone) (sym c.self.view_is) st) (due_one c t gone st) (ap (λ (s : Store). behind (s.paths).read) c.self.view_is ∙ number)
    c.give.ensures refl (c.bytes.ensures.bytes ∙ c.of_sync_response-pdu.ensures) c.say.ensures

pub invariant_of-self : goal.invariant_of-self
invariant_of-self c =
    let w = c.self.invariant in
    let st = subst (λ s. Stands s w.0.0 w.0.1) c.self.view_is w.0.2 in
    ((w.0.0 ▷ Answers c.in-Some.due.1, w.0.1, stands c w.0.0 w.0.1 st), omega (arith, w.1))

pub returns-clause-answered : goal.returns-clause-answered
returns-clause-answered c t gone st =
    subst (λ o. Stands (record (the_view c.self.inside) { paths = c.give.new.paths; owed = c.self.inside.owed - 1; outgoing = c.say.new.self }) (with_due o t) gone) (sym (due_one c t gone st)) (stands c t gone st)

pub returns-clause-due : goal.returns-clause-due
returns-clause-due c t gone st = sym (ap is_some (due_one c t gone st))

pub returns-clause-owed : goal.returns-clause-owed
returns-clause-owed c e =
    let w = c.self.invariant in
    let s = c.args.self.now in
    let st = subst (λ s. Stands s w.0.0 w.0.1) c.self.view_is w.0.2 in
    omega (arith, some_owed s w.0.0 w.0.1 c.in-Some.due.1 c.requires.client st (due_one c w.0.0 w.0.1 st), ap (λ (s : Store). s.owed) c.self.view_is)

pub returns-clause-written : goal.returns-clause-written
returns-clause-written c =
    omega (
      arith,
      ap (λ (o : Outgoing). length o.main) c.say.ensures,
      length-append (c.self.inside.outgoing).main (joined (frame_fields (Channel c.bytes.result.now))),
      frame_size_is c.bytes.result.now,
      ap (λ (b : List ℕ). length b) (c.bytes.ensures.bytes ∙ c.of_sync_response-pdu.ensures),
      answer_short c.in-Some.due.1,
      ap (λ (s : Store). length (s.outgoing).main) c.self.view_is,
    )

pub returns-clause-settled : goal.returns-clause-settled
returns-clause-settled c =
    let w = c.self.invariant in
    let s = c.args.self.now in
    let st = subst (λ s. Stands s w.0.0 w.0.1) c.self.view_is w.0.2 in
    omega (
      arith,
      ap (λ (o : Outgoing). length o.main) c.say.ensures,
      length-append (c.self.inside.outgoing).main (joined (frame_fields (Channel c.bytes.result.now))),
      frame_size_is c.bytes.result.now,
      ap (λ (b : List ℕ). length b) (c.bytes.ensures.bytes ∙ c.of_sync_response-pdu.ensures),
      answer_short c.in-Some.due.1,
      ap (λ (s : Store). length (s.outgoing).main) c.self.view_is,
      some_owed s w.0.0 w.0.1 c.in-Some.due.1 c.requires.client st (due_one c w.0.0 w.0.1 st),
      ap (λ (s : Store). s.owed) c.self.view_is,
    )
