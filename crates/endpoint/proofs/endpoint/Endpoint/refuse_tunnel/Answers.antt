use Rattle.std.proofs.Common.{◌≡◌, None, rules, ap, ◌∙◌}
use Rattle.mt_base.specs.Trace.{◌▷◌}
use Rattle.mt_endpoint.specs.Acts.{Refuses}
use Rattle.end_calls.specs.Calls.{Own, acts}
use Rattle.end_session.specs.Known.{refusal_in}
use Rattle.end_session.specs.OfKind.{tunnel_of}
use Rattle.endpoint.specs.Kept.{Kept}
use Rattle.endpoint.proofs.Inside.{inside}
use Rattle.endpoint.proofs.TunnelsRefused.{refused, room_before, room_between}
use Rattle.endpoint.proofs.endpoint.Endpoint.refuse_tunnel.Goals as goal

pub refuse-requires-clause-room : goal.refuse-requires-clause-room
refuse-requires-clause-room g c =
    let old = c.self.invariant in
    room_before c.self.inside.reader c.self.inside.postings old.0 old.1 c.args.kind (old.2).tells (ap (λ (k : Kept _ _). k.reader.session.role) c.self.view_is ∙ c.requires.role)
    (ap (λ (k : Kept _ _). refusal_in k.reader.session.role (tunnel_of c.args.kind k.reader.session)) c.self.view_is ∙ c.requires.unrefused)

pub answer_all-requires-clause-room : goal.answer_all-requires-clause-room
answer_all-requires-clause-room g c =
    let old = c.self.invariant in
    let tells = (old.2).tells in
    let first = c.refuse.ensures in
    room_between c.self.inside.reader c.self.inside.postings old.0 old.1 c.args.kind c.args.hr c.refuse.new.self tells (ap (λ (k : Kept _ _). k.reader.session.role) c.self.view_is ∙ c.requires.role)
    (ap (λ (k : Kept _ _). refusal_in k.reader.session.role (tunnel_of c.args.kind k.reader.session)) c.self.view_is ∙ c.requires.unrefused) (first.stands (acts old.0 old.1) tells.gone (tells.reads).stands) first.same.0

pub returns-clause-refused : goal.returns-clause-refused
returns-clause-refused g c role t k whole =
    let e = inside _ _ c.self.view_is k in
    let u = acts role t in
    let gone = e.tells.gone in
    let was : c.self.inside.reader.session.broken ≡ None = e.tells.reads.broken_is ∙ whole in
    let is = ap (λ (k : Kept _ _). k.reader.session.role) c.self.view_is ∙ c.requires.role in
    let none = ap (λ (k : Kept _ _). refusal_in k.reader.session.role (tunnel_of c.args.kind k.reader.session)) c.self.view_is ∙ c.requires.unrefused in
    let first = c.refuse.ensures in
    let st = first.stands u gone (e.tells.reads).stands in
    let then = c.answer_all.ensures in
    refused _ _ _ _ _ _ c.self.inside.reader c.self.inside.postings c.self.inside.reliable c.self.inside.lossy role t c.args.kind c.args.hr c.refuse.new.self c.answer_all.new.self e is was none c.ranges.hr.fits st first.same.0
    (then.answered (u ▷ Refuses c.args.kind c.args.hr) gone st) then.same.0 (then.same.1 ∙ first.same.1)

pub invariant_of-self : goal.invariant_of-self
invariant_of-self g c =
    let old = c.self.invariant in
    let e = old.2 in
    let u = acts old.0 old.1 in
    let gone = e.tells.gone in
    let was : c.self.inside.reader.session.broken ≡ None = search rules in
    let is = ap (λ (k : Kept _ _). k.reader.session.role) c.self.view_is ∙ c.requires.role in
    let none = ap (λ (k : Kept _ _). refusal_in k.reader.session.role (tunnel_of c.args.kind k.reader.session)) c.self.view_is ∙ c.requires.unrefused in
    let first = c.refuse.ensures in
    let st = first.stands u gone (e.tells.reads).stands in
    let then = c.answer_all.ensures in (
      old.0,
      old.1 ▷ Own (Refuses c.args.kind c.args.hr),
      refused _ _ _ _ _ _ c.self.inside.reader c.self.inside.postings c.self.inside.reliable c.self.inside.lossy old.0 old.1 c.args.kind c.args.hr c.refuse.new.self c.answer_all.new.self e is was none c.ranges.hr.fits st first.same.0
          (then.answered (u ▷ Refuses c.args.kind c.args.hr) gone st) then.same.0 (then.same.1 ∙ first.same.1),
    )
