use Rattle.std.proofs.Common.{ap, slice_get, ◌∙◌}
use Rattle.dvc_channels.specs.Acts.{untaken}
use Rattle.mt_endpoint.specs.Channels.{table}
use Rattle.end_calls.specs.Calls.{acts}
use Rattle.endpoint.proofs.Inside.{inside, kept_some}
use Rattle.endpoint.proofs.MessagesTaken.{taken}
use Rattle.mt_base.specs.Trace.{◌▷◌}
use Rattle.mt_endpoint.specs.Acts.{Takes}
use Rattle.end_calls.specs.Calls.{Own}
use Rattle.endpoint.proofs.endpoint.Endpoint.take.Goals as goal

pub returns-clause-taken : goal.returns-clause-taken
returns-clause-taken g c role t k =
    let e = inside _ _ c.self.view_is k in
    let r = c.take.ensures in
    taken _ _ _ _ _ _ _ _ _ _ role t c.args.id c.take.result c.take.new.self e (r.taken (acts role t) e.tells.gone (e.tells.reads).stands) r.same.0 r.same.1

pub returns-clause-oldest : goal.returns-clause-oldest
returns-clause-oldest g c role t k =
    let e = inside _ _ c.self.view_is k in
    c.take.ensures.oldest (acts role t) e.tells.gone (e.tells.reads).stands ∙ ap (λ r. slice_get (untaken (table r (acts role t)) c.args.id) 0) e.tells.role_is

pub invariant_of-self : goal.invariant_of-self
invariant_of-self g c =
    let old = c.self.invariant in
    let e = old.2 in
    let r = c.take.ensures in
    kept_some _ _ _ _ _ _ c.self.inside.reader _ _ _ c.take.new.self c.take.result old.0 (λ message. old.1 ▷ Own (Takes c.args.id message)) old r.none
    (taken _ _ _ _ _ _ _ _ _ _ old.0 old.1 c.args.id c.take.result c.take.new.self e (r.taken (acts old.0 old.1) e.tells.gone (e.tells.reads).stands) r.same.0 r.same.1)
