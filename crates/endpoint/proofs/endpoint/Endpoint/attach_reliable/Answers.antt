use Rattle.std.proofs.Common.{◌≡◌, ◌+◌, ◌≤◌, false, length, None, rules, ap, subst, ◌∙◌}
use Rattle.mt_base.specs.Trace.{Trace, ◌▷◌}
use Rattle.mt_windows.specs.declared.limits.TheConstants.{QUEUE}
use Rattle.carrier.specs.Entries as link
use Rattle.mt_base.specs.declared.kinds.Kind.TheVariants.{Reliable}
use Rattle.mt_endpoint.specs.Acts.{Attaches}
use Rattle.end_calls.specs.Calls.{Own, acts}
use Rattle.end_session.specs.OfKind.{tunnel_of}
use Rattle.end_calls.specs.Links.{gives_bytes}
use Rattle.endpoint.specs.Attached.{is_closed}
use Rattle.endpoint.specs.Kept.{Kept}
use Rattle.endpoint.proofs.Inside.{inside}
use Rattle.endpoint.proofs.LinksAttached.{attached_reliable}
use Rattle.endpoint.proofs.endpoint.Endpoint.attach_reliable.Goals as goal

pub returns-clause-attached : goal.returns-clause-attached
returns-clause-attached g c role t k whole =
    let e = inside _ _ c.self.view_is k in
    let gone = e.tells.gone in
    let was : c.self.inside.reader.session.broken ≡ None = e.tells.reads.broken_is ∙ whole in
    let free = ap (λ (k : Kept _ _). (tunnel_of Reliable k.reader.session).is_attached) c.self.view_is ∙ c.requires.unattached in
    let a = c.attach.ensures in
    let st = a.stands (acts role t) gone (e.tells.reads).stands in
    let gave = c.give_waiting.ensures in
    attached_reliable _ _ _ g.C.Carrier.load _ _ _ c.self.inside.reader c.self.inside.postings c.self.inside.reliable c.self.inside.lossy role t c.attach.new.session c.given.new.self c.args.link c.give_waiting.new.link e was free st a.same.0 a.same.1
    (a.written (acts role t) gone (e.tells.reads).stands) c.given.ensures.left (c.given.ensures.stands (acts role t ▷ Attaches Reliable) gone st) c.requires.fresh c.requires.empty.0 c.requires.empty.1 c.requires.unclosed
    (subst (λ bytes. (u : Trace link.Entry) → g.C.Carrier.stands c.args.link u → is_closed (g.C.Carrier.condition c.args.link) ≡ false → g.C.Carrier.load c.args.link + length bytes ≤ QUEUE → g.C.Carrier.stands c.give_waiting.new.link (gives_bytes bytes u)) c.waiting.ensures gave.trace) gave.left gave.state

pub invariant_of-self : goal.invariant_of-self
invariant_of-self g c =
    let old = c.self.invariant in
    let e = old.2 in
    let gone = e.tells.gone in
    let was : c.self.inside.reader.session.broken ≡ None = search rules in
    let free = ap (λ (k : Kept _ _). (tunnel_of Reliable k.reader.session).is_attached) c.self.view_is ∙ c.requires.unattached in
    let a = c.attach.ensures in
    let st = a.stands (acts old.0 old.1) gone (e.tells.reads).stands in
    let gave = c.give_waiting.ensures in (
      old.0,
      old.1 ▷ Own (Attaches Reliable),
      attached_reliable _ _ _ g.C.Carrier.load _ _ _ c.self.inside.reader c.self.inside.postings c.self.inside.reliable c.self.inside.lossy old.0 old.1 c.attach.new.session c.given.new.self c.args.link c.give_waiting.new.link e was free st a.same.0 a.same.1
          (a.written (acts old.0 old.1) gone (e.tells.reads).stands) c.given.ensures.left (c.given.ensures.stands (acts old.0 old.1 ▷ Attaches Reliable) gone st) c.requires.fresh c.requires.empty.0 c.requires.empty.1 c.requires.unclosed
          (subst (λ bytes. (u : Trace link.Entry) → g.C.Carrier.stands c.args.link u → is_closed (g.C.Carrier.condition c.args.link) ≡ false → g.C.Carrier.load c.args.link + length bytes ≤ QUEUE → g.C.Carrier.stands c.give_waiting.new.link (gives_bytes bytes u)) c.waiting.ensures gave.trace) gave.left gave.state,
    )
