use Rattle.std.proofs.Common.{◌≡◌, ◌<◌, [], length, length-append, Some, sym, ap, subst, ◌∙◌, arith}
use Rattle.mt_base.specs.Trace.{Trace, ◌▷◌}
use Rattle.mt_endpoint.specs.Acts.{Act, Asks}
use Rattle.end_calls.specs.declared.refusal.AskRefusal.TheVariants as ask
use Rattle.end_calls.specs.Refusing.{main_limit, passes}
use Rattle.tunnel_cookies.specs.Entries.{Entries, entry_of}
use Rattle.end_session.specs.Refusals.{before_asking}
use Rattle.end_session.specs.Standing.{Gone, Stands}
use Rattle.end_session.specs.Store.{Store}
use Rattle.end_session.specs.contracts.session.Session.{the_view}
use Rattle.end_session.proofs.ChannelsOpened.{first_is, fits_cause, full_cause, limit_within, on_ok, room_for}
use Rattle.end_session.proofs.TunnelsAsked.{ask_by_room, asks, is_issued, may_ask}
use Rattle.end_session.proofs.session.Session.ask_tunnel.Goals as goal

pub returns-in-Some-clause-refused : goal.returns-in-Some-clause-refused
returns-in-Some-clause-refused c t gone st = first_is (before_asking c.args.self.now.broken t c.args.kind c.args.id) _ c.in-Some.why (sym (c.ask_refusal.ensures t gone st) ∙ c.in-Some.is)

pub returns-in-Some-full_main-clause-refused : goal.returns-in-Some-full_main-clause-refused
returns-in-Some-full_main-clause-refused c t gone st =
    let queued = length ((c.args.self.now).outgoing).main in
    let limit = main_limit t in
    let size : length c.args.cookie.now ≡ 16 = omega arith in
    ask_by_room c.args.self.now.broken t queued c.args.kind c.args.id c.args.cookie.now (sym (c.ask_refusal.ensures t gone st) ∙ c.in_default.is) size
    ∙ full_cause (ask.QueueFull queued) (passes queued 27 limit) limit c.in-Some-full_main.limit (sym c.in-Some-full_main.is ∙ c.full_main.ensures t gone st)
    ∙ ap (λ n. Some (ask.QueueFull n c.in-Some-full_main.limit)) (sym (c.main_len-queued.ensures.count ∙ ap (λ (s : Store). length (s.outgoing).main) c.self.view_is))

pub unreachable-requires : goal.unreachable-requires
unreachable-requires c =
    let w = c.self.invariant in
    let st = subst (λ s. Stands s w.0.0 w.0.1) c.self.view_is w.0.2 in
    let m = may_ask c.args.self.now.broken w.0.0 c.args.kind c.args.id (sym (c.ask_refusal.ensures w.0.0 w.0.1 st) ∙ c.in_default.is) in
    let are = ((w.0.2).knows).issued_are in
    is_issued c.issue.result c.args.id c.self.inside.issued (ap (entry_of c.args.id) are ∙ m.fresh) (subst (λ (e : Entries). length e < 16) (sym are) m.few) (sym c.is_err.ensures.value ∙ c.if-is_err.true) c.issue.ensures.refused

pub put_frame-requires-clause-room : goal.put_frame-requires-clause-room
put_frame-requires-clause-room c =
    let w = c.self.invariant in
    let st = subst (λ s. Stands s w.0.0 w.0.1) c.self.view_is w.0.2 in
    let queued = length ((c.args.self.now).outgoing).main in
    let size : length c.args.cookie.now ≡ 16 = omega arith in
    omega (arith, length-append c.args.cookie.now [], size, room_for queued 27 (main_limit w.0.0) (sym c.in_default-full_main.is ∙ c.full_main.ensures w.0.0 w.0.1 st), limit_within w.0.0, ap (λ (s : Store). length (s.outgoing).main) c.self.view_is)

-- the end that it leaves, which stands for one act more
stands : (c : goal.After-put_frame) (t : Trace Act) (gone : Gone) → Stands c.args.self.now t gone
    → Stands (record (the_view c.self.inside) { issued = c.issue.new.self; reliable = c.ask.new.reliable; lossy = c.ask.new.lossy; outgoing = c.put_frame.new.self }) (t ▷ Asks c.args.kind c.args.id c.args.cookie.now) gone
stands c t gone st =
    let m = may_ask c.args.self.now.broken t c.args.kind c.args.id (sym (c.ask_refusal.ensures t gone st) ∙ c.in_default.is) in
    let size : length c.args.cookie.now ≡ 16 = omega arith in
    asks (the_view c.self.inside) t gone c.args.kind c.args.id c.args.cookie.now c.issue.new.self c.ask.new.reliable c.ask.new.lossy c.put_frame.new.self (ap (λ (s : Store). s.role) c.self.view_is ∙ c.requires)
    (subst (λ s. Stands s t gone) (sym c.self.view_is) st) m.unasked m.fresh size (on_ok c.issue.result (sym c.is_err.ensures.value ∙ c.if-is_err.false) c.issue.ensures.issued) c.ask.ensures.reliable c.ask.ensures.lossy c.put_frame.ensures

pub returns-clause-asked : goal.returns-clause-asked
returns-clause-asked c t gone st = stands c t gone st

pub invariant_of-self : goal.invariant_of-self
invariant_of-self c =
    let w = c.self.invariant in
    ((w.0.0 ▷ Asks c.args.kind c.args.id c.args.cookie.now, w.0.1, stands c w.0.0 w.0.1 (subst (λ s. Stands s w.0.0 w.0.1) c.self.view_is w.0.2)), w.1)

pub returns-clause-allowed : goal.returns-clause-allowed
returns-clause-allowed c t gone st =
    let queued = length ((c.args.self.now).outgoing).main in
    let limit = main_limit t in
    let size : length c.args.cookie.now ≡ 16 = omega arith in
    ask_by_room c.args.self.now.broken t queued c.args.kind c.args.id c.args.cookie.now (sym (c.ask_refusal.ensures t gone st) ∙ c.in_default.is) size
    ∙ fits_cause (ask.QueueFull queued limit) (passes queued 27 limit) limit (sym c.in_default-full_main.is ∙ c.full_main.ensures t gone st)
