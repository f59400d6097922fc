use Rattle.std.proofs.Common.{refl, arith}
use Rattle.mt_base.specs.Trace.{Start, ◌▷◌}
use Rattle.mt_endpoint.specs.Acts.{Began}
use Rattle.end_session.specs.Standing.{nothing_gone}
use Rattle.end_session.proofs.Beginnings.{begun}
use Rattle.end_session.proofs.session.Session.new.Goals as goal

pub returns-clause-stands : goal.returns-clause-stands
returns-clause-stands c = begun _ c.in_ok-new.ensures c.in_ok-new-2.ensures c.in_ok-new-3.ensures c.new-4.ensures c.new-5.ensures c.in_ok-new-4.ensures c.in_ok-new-5.ensures refl refl c.in_ok-outgoing.ensures

pub invariant_of-result : goal.invariant_of-result
invariant_of-result c = ((Start ▷ Began, nothing_gone, returns-clause-stands c), omega arith)
