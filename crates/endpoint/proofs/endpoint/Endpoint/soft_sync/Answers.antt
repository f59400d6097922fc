use Rattle.std.proofs.Common.{◌≡◌, length, None, Some, IfErr, OnOk}
use Rattle.end_calls.specs.Calls.{acts}
use Rattle.end_calls.specs.Refusing.{why_not_moved}
use Rattle.endpoint.proofs.Inside.{inside, kept_ok}
use Rattle.endpoint.proofs.ServerSteps.{moved}
use Rattle.endpoint.proofs.Steps.{as_told}
use Rattle.mt_base.specs.Trace.{◌▷◌}
use Rattle.mt_endpoint.specs.Acts.{Syncs}
use Rattle.end_calls.specs.Calls.{Own}
use Rattle.endpoint.proofs.endpoint.Endpoint.soft_sync.Goals as goal

pub returns-clause-moved : goal.returns-clause-moved
returns-clause-moved g c role t k =
    let e = inside _ _ c.self.view_is k in
    let r = c.soft_sync.ensures in
    let st = (e.tells.reads).stands in
    moved _ _ _ _ _ _ _ _ _ _ role t c.args.reliable.now c.args.lossy.now c.soft_sync.result c.soft_sync.new.self e (r.moved (acts role t) e.tells.gone st) (r.allowed (acts role t) e.tells.gone st) r.same.0 r.same.1

pub returns-clause-allowed : goal.returns-clause-allowed
returns-clause-allowed g c role t k =
    let e = inside _ _ c.self.view_is k in
    as_told (λ broken unsent. OnOk c.soft_sync.result (why_not_moved broken (acts role t) (length unsent) c.args.reliable.now c.args.lossy.now ≡ None)) _ _ role t e.tells
    (c.soft_sync.ensures.allowed (acts role t) e.tells.gone (e.tells.reads).stands)

pub returns-clause-refused : goal.returns-clause-refused
returns-clause-refused g c role t k =
    let e = inside _ _ c.self.view_is k in
    as_told (λ broken unsent. IfErr c.soft_sync.result (λ why. why_not_moved broken (acts role t) (length unsent) c.args.reliable.now c.args.lossy.now ≡ Some why)) _ _ role t e.tells
    (c.soft_sync.ensures.refused (acts role t) e.tells.gone (e.tells.reads).stands)

pub invariant_of-self : goal.invariant_of-self
invariant_of-self g c =
    let old = c.self.invariant in
    let e = old.2 in
    let r = c.soft_sync.ensures in
    let st = (e.tells.reads).stands in
    kept_ok _ _ _ _ _ _ c.self.inside.reader _ _ _ c.soft_sync.new.self c.soft_sync.result old.0 (old.1 ▷ Own (Syncs c.args.reliable.now c.args.lossy.now)) old r.unchanged
    (moved _ _ _ _ _ _ _ _ _ _ old.0 old.1 c.args.reliable.now c.args.lossy.now c.soft_sync.result c.soft_sync.new.self e (r.moved (acts old.0 old.1) e.tells.gone st) (r.allowed (acts old.0 old.1) e.tells.gone st) r.same.0 r.same.1)
