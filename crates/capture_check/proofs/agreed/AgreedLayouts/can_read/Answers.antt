use Rattle.std.proofs.Common.{sym, subst, ◌↔◌, IsTrue}
use Rattle.capture_check.specs.Layouts.{IsReadable}
use Rattle.capture_check.specs.LayoutsSoFar.{ReadsNow, layout_of}
use Rattle.capture_check.proofs.Openings.{reads_as_asked}
use Rattle.capture_check.proofs.agreed.AgreedLayouts.can_read.Goals as goal

pub returns-in-Out : goal.returns-in-Out
returns-in-Out c before are =
    subst (λ e. IsTrue c.reads.result ↔ IsReadable before e) (sym c.in-Out.is)
    (reads_as_asked c.args.self c.in-Out.kind before c.in-Out.side c.in-Out.number c.in-Out.datagram c.reads.result are
    (subst (λ d. IsTrue c.reads.result ↔ ReadsNow (layout_of c.args.self c.in-Out.kind) d) c.bytes.ensures c.reads.ensures))
