use Rattle.std.proofs.Common.{ap, codes}
use Rattle.mt_base.specs.Trace.{◌▷◌}
use Rattle.mt_endpoint.specs.Acts.{Opens}
use Rattle.end_calls.specs.Calls.{Own}
use Rattle.endpoint.specs.Standing.{EndStands}
use Rattle.file_session.proofs.Created.{created}
use Rattle.file_session.proofs.LawsKept.{laws_then}
use Rattle.file_session.proofs.opening.open_files.Goals as goal

pub returns-in-Ok-clause-created : goal.returns-in-Ok-clause-created
returns-in-Ok-clause-created g c role t k is =
    let o = c.in-Ok.ensures.opened role t k in
    let u = t ▷ Own (Opens c.in-Ok.field-0 (codes "files")) in
    created (λ e v. EndStands g.C.Carrier.stands g.C.Carrier.left g.C.Carrier.condition g.P.Post.stands g.P.Post.left g.P.Post.condition e role v) role c.args.id c.args.cookie.now t u c.ask_tunnel-asked.result c.open_channel.new.self c.ask_tunnel-asked.new.self
    (ap (λ id. t ▷ Own (Opens id (codes "files"))) o.0) o.1 (c.ask_tunnel-asked.ensures.asked role u o.1) (c.ask_tunnel-asked.ensures.refused role u o.1) c.ask_tunnel-asked.ensures.unchanged

pub returns-in-Ok-clause-laws : goal.returns-in-Ok-clause-laws
returns-in-Ok-clause-laws g c = laws_then _ _ _ _ _ c.open_channel.ensures.laws c.ask_tunnel-asked.ensures.laws
