use Rattle.std.proofs.Common.{ap, ◌∙◌}
use Rattle.mt_endpoint.specs.Tunnels.{tunnel}
use Rattle.end_calls.specs.Calls.{acts}
use Rattle.end_session.specs.Known.{state_of}
use Rattle.endpoint.proofs.Inside.{inside}
use Rattle.endpoint.proofs.endpoint.Endpoint.tunnel.Goals as goal

pub returns-clause-acts : goal.returns-clause-acts
returns-clause-acts g c role t k =
    let e = inside _ _ c.self.view_is k in
    c.tunnel.ensures.acts (acts role t) e.tells.gone (e.tells.reads).stands ∙ ap (λ r. state_of (tunnel r c.args.kind (acts role t))) e.tells.role_is
