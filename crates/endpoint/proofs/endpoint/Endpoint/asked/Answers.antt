use Rattle.end_calls.specs.Calls.{acts}
use Rattle.endpoint.proofs.Inside.{inside}
use Rattle.endpoint.proofs.endpoint.Endpoint.asked.Goals as goal

pub returns-clause-acts : goal.returns-clause-acts
returns-clause-acts g c role t k =
    let e = inside _ _ c.self.view_is k in
    c.asked.ensures.acts (acts role t) e.tells.gone (e.tells.reads).stands
