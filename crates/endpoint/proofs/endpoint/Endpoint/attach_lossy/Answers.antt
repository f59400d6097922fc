use Rattle.std.proofs.Common.{◌≡◌, ◌<◌, false, length, None, rules, ap, subst, ◌∙◌, arith}
use Rattle.mt_base.specs.Trace.{Trace, ◌▷◌}
use Rattle.mt_windows.specs.declared.limits.TheConstants.{WINDOW}
use Rattle.carrier.specs.Entries as link
use Rattle.mt_base.specs.declared.kinds.Kind.TheVariants.{Lossy}
use Rattle.mt_endpoint.specs.Acts.{Attaches}
use Rattle.end_calls.specs.Calls.{Own, acts, attached_by}
use Rattle.end_session.specs.OfKind.{tunnel_of}
use Rattle.endpoint.specs.Attached.{is_closed, posts_bytes}
use Rattle.endpoint.specs.Kept.{Kept}
use Rattle.endpoint.proofs.Inside.{inside}
use Rattle.endpoint.proofs.LinksAttached.{attached_lossy}
use Rattle.endpoint.proofs.endpoint.Endpoint.attach_lossy.Goals as goal

pub returns-clause-attached : goal.returns-clause-attached
returns-clause-attached g c role t k whole =
    let e = inside _ _ c.self.view_is k in
    let gone = e.tells.gone in
    let was : c.self.inside.reader.session.broken ≡ None = e.tells.reads.broken_is ∙ whole in
    let free = ap (λ (k : Kept _ _). (tunnel_of Lossy k.reader.session).is_attached) c.self.view_is ∙ c.requires.unattached in
    let a = c.attach.ensures in
    let st = a.stands (acts role t) gone (e.tells.reads).stands in
    let gave = c.post_waiting.ensures in
    attached_lossy _ _ _ _ _ _ g.P.Post.load c.self.inside.reader c.self.inside.postings c.attached.new.self c.self.inside.reliable c.self.inside.lossy role t c.attach.new.session c.given.new.self c.args.link c.post_waiting.new.link e was free st a.same.0 a.same.1
    c.given.ensures.left (c.given.ensures.stands (acts role t ▷ Attaches Lossy) gone st) c.requires.fresh c.requires.empty.0 c.requires.empty.1 c.requires.unclosed
    (subst (λ bytes. (u : Trace link.Entry) → g.P.Post.stands c.args.link u → is_closed (g.P.Post.condition c.args.link) ≡ false → g.P.Post.load c.args.link < WINDOW → g.P.Post.stands c.post_waiting.new.link (posts_bytes bytes u)) c.waiting.ensures gave.trace) gave.left gave.state
    (c.attached.ensures ∙ ap (λ r. attached_by r (Attaches Lossy) c.self.inside.postings) c.role.ensures)

pub invariant_of-self : goal.invariant_of-self
invariant_of-self g c =
    let old = c.self.invariant in
    let e = old.2 in
    let gone = e.tells.gone in
    let was : c.self.inside.reader.session.broken ≡ None = search rules in
    let free = ap (λ (k : Kept _ _). (tunnel_of Lossy k.reader.session).is_attached) c.self.view_is ∙ c.requires.unattached in
    let a = c.attach.ensures in
    let st = a.stands (acts old.0 old.1) gone (e.tells.reads).stands in
    let gave = c.post_waiting.ensures in (
      old.0,
      old.1 ▷ Own (Attaches Lossy),
      attached_lossy _ _ _ _ _ _ g.P.Post.load c.self.inside.reader c.self.inside.postings c.attached.new.self c.self.inside.reliable c.self.inside.lossy old.0 old.1 c.attach.new.session c.given.new.self c.args.link c.post_waiting.new.link e was free st a.same.0 a.same.1
          c.given.ensures.left (c.given.ensures.stands (acts old.0 old.1 ▷ Attaches Lossy) gone st) c.requires.fresh c.requires.empty.0 c.requires.empty.1 c.requires.unclosed
          (subst (λ bytes. (u : Trace link.Entry) → g.P.Post.stands c.args.link u → is_closed (g.P.Post.condition c.args.link) ≡ false → g.P.Post.load c.args.link < WINDOW → g.P.Post.stands c.post_waiting.new.link (posts_bytes bytes u)) c.waiting.ensures gave.trace) gave.left gave.state
          (c.attached.ensures ∙ ap (λ r. attached_by r (Attaches Lossy) c.self.inside.postings) c.role.ensures),
    )

pub post_waiting-requires : goal.post_waiting-requires
post_waiting-requires g c =
    let e = c.self.invariant.2 in
    let short = c.attach.ensures.written (acts c.self.invariant.0 c.self.invariant.1) e.tells.gone (e.tells.reads).stands in
    omega (arith, short, ap length c.waiting.ensures)
