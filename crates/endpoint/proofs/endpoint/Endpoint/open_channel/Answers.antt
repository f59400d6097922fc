use Rattle.std.proofs.Common.{◌≡◌, length, None, IfErr, OnOk}
use Rattle.end_calls.specs.Calls.{acts}
use Rattle.end_calls.specs.Refusing.{why_not_opened}
use Rattle.end_session.specs.Causes.{IsOpenCause}
use Rattle.endpoint.proofs.Inside.{inside, kept_with}
use Rattle.endpoint.proofs.ServerSteps.{opened}
use Rattle.endpoint.proofs.Steps.{as_told}
use Rattle.mt_base.specs.Trace.{◌▷◌}
use Rattle.mt_endpoint.specs.Acts.{Opens}
use Rattle.end_calls.specs.Calls.{Own}
use Rattle.end_calls.specs.Refusing.{next_id}
use Rattle.endpoint.proofs.endpoint.Endpoint.open_channel.Goals as goal

pub returns-clause-opened : goal.returns-clause-opened
returns-clause-opened g c role t k =
    let e = inside _ _ c.self.view_is k in
    let r = c.open_channel.ensures in
    let st = (e.tells.reads).stands in
    opened _ _ _ _ _ _ _ _ _ _ role t c.args.name.now c.open_channel.result c.open_channel.new.self e (r.opened (acts role t) e.tells.gone st) (r.allowed (acts role t) e.tells.gone st) r.same.0 r.same.1

pub returns-clause-allowed : goal.returns-clause-allowed
returns-clause-allowed g c role t k =
    let e = inside _ _ c.self.view_is k in
    as_told (λ broken unsent. OnOk c.open_channel.result (why_not_opened broken (acts role t) (length unsent) c.args.name.now ≡ None)) _ _ role t e.tells
    (c.open_channel.ensures.allowed (acts role t) e.tells.gone (e.tells.reads).stands)

pub returns-clause-refused : goal.returns-clause-refused
returns-clause-refused g c role t k =
    let e = inside _ _ c.self.view_is k in
    as_told (λ broken unsent. IfErr c.open_channel.result (λ why. IsOpenCause (why_not_opened broken (acts role t) (length unsent) c.args.name.now) why)) _ _ role t e.tells
    (c.open_channel.ensures.refused (acts role t) e.tells.gone (e.tells.reads).stands)

pub invariant_of-self : goal.invariant_of-self
invariant_of-self g c =
    let old = c.self.invariant in
    let e = old.2 in
    let r = c.open_channel.ensures in
    let st = (e.tells.reads).stands in
    kept_with _ _ _ _ _ _ c.self.inside.reader _ _ _ c.open_channel.new.self c.open_channel.result old.0 (λ id. old.1 ▷ Own (Opens id c.args.name.now)) (λ id. id ≡ next_id (acts old.0 old.1)) old r.unchanged
    (opened _ _ _ _ _ _ _ _ _ _ old.0 old.1 c.args.name.now c.open_channel.result c.open_channel.new.self e (r.opened (acts old.0 old.1) e.tells.gone st) (r.allowed (acts old.0 old.1) e.tells.gone st) r.same.0 r.same.1)
