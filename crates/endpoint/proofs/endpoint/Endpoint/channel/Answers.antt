use Rattle.std.proofs.Common.{ap, ◌∙◌}
use Rattle.mt_endpoint.specs.Channels.{channel}
use Rattle.end_calls.specs.Calls.{acts}
use Rattle.endpoint.proofs.Inside.{inside}
use Rattle.endpoint.proofs.endpoint.Endpoint.channel.Goals as goal

pub returns : goal.returns
returns g c role t k =
    let e = inside _ _ c.self.view_is k in
    c.channel.ensures (acts role t) e.tells.gone (e.tells.reads).stands ∙ ap (λ r. channel r c.args.id (acts role t)) e.tells.role_is
