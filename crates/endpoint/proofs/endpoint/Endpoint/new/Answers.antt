use Rattle.mt_base.specs.Trace.{Start, ◌▷◌}
use Rattle.mt_endpoint.specs.Acts.{Began}
use Rattle.end_calls.specs.Calls.{Own}
use Rattle.endpoint.proofs.Making.{made}
use Rattle.endpoint.proofs.endpoint.Endpoint.new.Goals as goal

pub invariant_of-result : goal.invariant_of-result
invariant_of-result g c =
    let r = c.in_ok-reader.ensures in
    (c.args.role, Start ▷ Own Began, made _ _ _ _ _ _ c.args.role c.in_ok-reader.reader c.new-2.result r.reads r.role c.new-2.ensures)

pub returns : goal.returns
returns g c =
    let r = c.in_ok-reader.ensures in
    made _ _ _ _ _ _ c.args.role c.in_ok-reader.reader c.new-2.result r.reads r.role c.new-2.ensures
