use Rattle.std.proofs.Common.{option_map, sym, ap, subst, ◌∙◌, arith, length}
use Rattle.mt_base.specs.Trace.{Trace, ◌▷◌}
use Rattle.mt_endpoint.specs.Acts.{Act, Refuses}
use Rattle.end_session.specs.AskedView.{request_of}
use Rattle.end_session.specs.Known.{refusal_in}
use Rattle.end_session.specs.OfKind.{tunnel_of}
use Rattle.end_session.specs.Standing.{Gone, Stands}
use Rattle.end_session.specs.Store.{Store}
use Rattle.end_session.specs.contracts.session.Session.{the_view}
use Rattle.end_session.proofs.TunnelsRefused.{never_unasked, refuses}
use Rattle.end_session.proofs.session.Session.refuse.Goals as goal

pub unreachable-requires : goal.unreachable-requires
unreachable-requires c = never_unasked request_of c.asked.result (tunnel_of c.args.kind c.args.self.now).asked c.in_default.is c.asked.ensures.value c.requires.asked

pub put_frame-requires-clause-room : goal.put_frame-requires-clause-room
put_frame-requires-clause-room c = omega (arith, c.requires.room, ap (λ (s : Store). length (s.outgoing).main) c.self.view_is)

-- the end that it leaves, which stands for one act more
stands : (c : goal.After-put_frame) (t : Trace Act) (gone : Gone) → Stands c.args.self.now t gone
    → Stands (record (the_view c.self.inside) { reliable = c.refuse.new.reliable; lossy = c.refuse.new.lossy; outgoing = c.put_frame.new.self }) (t ▷ Refuses c.args.kind c.args.hr) gone
stands c t gone st =
    refuses (the_view c.self.inside) t gone c.args.kind c.args.hr (request_of c.in-Some.asked) c.refuse.new.reliable c.refuse.new.lossy c.put_frame.new.self (ap (λ (s : Store). s.role) c.self.view_is ∙ c.requires.role)
    (sym (ap (option_map request_of) c.in-Some.is) ∙ c.asked.ensures.value ∙ sym (ap (λ (s : Store). (tunnel_of c.args.kind s).asked) c.self.view_is))
    (ap (λ (s : Store). (tunnel_of c.args.kind s).is_attached) c.self.view_is ∙ c.requires.unattached) (ap (λ (s : Store). refusal_in s.role (tunnel_of c.args.kind s)) c.self.view_is ∙ c.requires.unrefused)
    c.requires.code c.refuse.ensures.reliable c.refuse.ensures.lossy c.put_frame.ensures (subst (λ s. Stands s t gone) (sym c.self.view_is) st)

pub returns-clause-stands : goal.returns-clause-stands
returns-clause-stands c t gone st = stands c t gone st

pub invariant_of-self : goal.invariant_of-self
invariant_of-self c =
    let w = c.self.invariant in
    ((w.0.0 ▷ Refuses c.args.kind c.args.hr, w.0.1, stands c w.0.0 w.0.1 (subst (λ s. Stands s w.0.0 w.0.1) c.self.view_is w.0.2)), w.1)
