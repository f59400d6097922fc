use Rattle.end_calls.specs.Calls.{acts}
use Rattle.endpoint.proofs.Inside.{inside}
use Rattle.endpoint.proofs.endpoint.Endpoint.outward.Goals as goal

pub returns : goal.returns
returns g c role t k =
    let e = inside _ _ c.self.view_is k in
    c.outward.ensures (acts role t) e.tells.gone (e.tells.reads).stands
