use Rattle.std.proofs.Common.{◌≡◌, ◌<◌, length, None, Some, IfErr, OnOk}
use Rattle.std.proofs.lemmas.List.Elements.{All-from_get_or}
use Rattle.mt_endpoint.specs.Acts.{Asks}
use Rattle.end_calls.specs.Calls.{acts}
use Rattle.end_calls.specs.Law.{IsGiven}
use Rattle.end_calls.specs.Refusing.{why_not_asked}
use Rattle.endpoint.proofs.Inside.{inside, kept_ok}
use Rattle.endpoint.proofs.ServerSteps.{asked}
use Rattle.endpoint.proofs.Steps.{as_told}
use Rattle.mt_base.specs.Trace.{◌▷◌}
use Rattle.end_calls.specs.Calls.{Own}
use Rattle.endpoint.proofs.endpoint.Endpoint.ask_tunnel.Goals as goal

pub returns-clause-asked : goal.returns-clause-asked
returns-clause-asked g c role t k =
    let e = inside _ _ c.self.view_is k in
    let r = c.ask_tunnel.ensures in
    let st = (e.tells.reads).stands in
    let given : IsGiven (Asks c.args.kind c.args.id c.args.cookie.now) = (c.ranges.id.fits, All-from_get_or (λ b. b < 256) c.args.cookie.now 0 (λ i within. c.fits-cookie i)) in
    asked _ _ _ _ _ _ _ _ _ _ role t c.args.kind c.args.id c.args.cookie.now c.ask_tunnel.result c.ask_tunnel.new.self e given (r.asked (acts role t) e.tells.gone st) (r.allowed (acts role t) e.tells.gone st) r.same.0 r.same.1

pub returns-clause-allowed : goal.returns-clause-allowed
returns-clause-allowed g c role t k =
    let e = inside _ _ c.self.view_is k in
    as_told (λ broken unsent. OnOk c.ask_tunnel.result (why_not_asked broken (acts role t) (length unsent) c.args.kind c.args.id c.args.cookie.now ≡ None)) _ _ role t e.tells
    (c.ask_tunnel.ensures.allowed (acts role t) e.tells.gone (e.tells.reads).stands)

pub returns-clause-refused : goal.returns-clause-refused
returns-clause-refused g c role t k =
    let e = inside _ _ c.self.view_is k in
    as_told (λ broken unsent. IfErr c.ask_tunnel.result (λ why. why_not_asked broken (acts role t) (length unsent) c.args.kind c.args.id c.args.cookie.now ≡ Some why)) _ _ role t e.tells
    (c.ask_tunnel.ensures.refused (acts role t) e.tells.gone (e.tells.reads).stands)

pub invariant_of-self : goal.invariant_of-self
invariant_of-self g c =
    let old = c.self.invariant in
    let e = old.2 in
    let r = c.ask_tunnel.ensures in
    let st = (e.tells.reads).stands in
    let given : IsGiven (Asks c.args.kind c.args.id c.args.cookie.now) = (c.ranges.id.fits, All-from_get_or (λ b. b < 256) c.args.cookie.now 0 (λ i within. c.fits-cookie i)) in
    kept_ok _ _ _ _ _ _ c.self.inside.reader _ _ _ c.ask_tunnel.new.self c.ask_tunnel.result old.0 (old.1 ▷ Own (Asks c.args.kind c.args.id c.args.cookie.now)) old r.unchanged
    (asked _ _ _ _ _ _ _ _ _ _ old.0 old.1 c.args.kind c.args.id c.args.cookie.now c.ask_tunnel.result c.ask_tunnel.new.self e given (r.asked (acts old.0 old.1) e.tells.gone st) (r.allowed (acts old.0 old.1) e.tells.gone st) r.same.0 r.same.1)
