use Rattle.std.proofs.Common.{subst}
use Rattle.mt_base.specs.Trace.{◌▷◌}
use Rattle.mt_endpoint.specs.Acts.{Closes}
use Rattle.end_calls.specs.Calls.{Own, acts}
use Rattle.endpoint.specs.Attached.{GaveIf}
use Rattle.endpoint.proofs.Inside.{inside}
use Rattle.endpoint.proofs.ChannelsClosed.{closed}
use Rattle.endpoint.proofs.endpoint.Endpoint.close_channel.Goals as goal

pub invariant_of-self-2 : goal.invariant_of-self-2
invariant_of-self-2 g c =
    let old = c.self.invariant in
    let e = old.2 in
    let u = acts old.0 old.1 in
    let gone = e.tells.gone in
    let st = (e.tells.reads).stands in
    let h = c.in_default.ensures in
    let s = h.closed u gone st in (
      old.0,
      old.1 ▷ Own (Closes c.args.id),
      closed _ _ _ g.C.Carrier.load _ _ _ c.self.inside.reader c.self.inside.postings c.self.inside.reliable c.give_if.new.link c.self.inside.lossy old.0 old.1 c.args.id c.load_of-load.result 0 c.close_channel.new.self c.given.new.self e c.load_of-load.ensures s
          (h.allowed u gone 0 st) h.same.0 h.same.1
          (subst (λ bytes. GaveIf g.C.Carrier.stands g.C.Carrier.left g.C.Carrier.condition g.C.Carrier.load bytes c.self.inside.reliable c.give_if.new.link) c.waiting.ensures c.give_if.ensures.gave) c.given.ensures.left
          (c.given.ensures.stands (u ▷ Closes c.args.id) gone s),
    )

pub returns-clause-closed : goal.returns-clause-closed
returns-clause-closed g c role t k =
    let e = inside _ _ c.self.view_is k in
    let u = acts role t in
    let gone = e.tells.gone in
    let st = (e.tells.reads).stands in
    let h = c.in_default.ensures in
    let s = h.closed u gone st in
    closed _ _ _ g.C.Carrier.load _ _ _ c.self.inside.reader c.self.inside.postings c.self.inside.reliable c.give_if.new.link c.self.inside.lossy role t c.args.id c.load_of-load.result 0 c.close_channel.new.self c.given.new.self e c.load_of-load.ensures s
    (h.allowed u gone 0 st) h.same.0 h.same.1
    (subst (λ bytes. GaveIf g.C.Carrier.stands g.C.Carrier.left g.C.Carrier.condition g.C.Carrier.load bytes c.self.inside.reliable c.give_if.new.link) c.waiting.ensures c.give_if.ensures.gave) c.given.ensures.left
    (c.given.ensures.stands (u ▷ Closes c.args.id) gone s)
