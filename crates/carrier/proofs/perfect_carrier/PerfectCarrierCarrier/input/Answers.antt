use Rattle.std.proofs.Common.{◌∙◌, sym, ap, subst, ◌++◌}
use Rattle.mt_base.specs.Trace.{◌▷◌}
use Rattle.carrier.specs.Entries.{In}
use Rattle.carrier.specs.Perfect.{bytes_of}
use Rattle.carrier.specs.PerfectView.{CarrierStands}
use Rattle.carrier.proofs.Perfect.{takes, takes_more}
use Rattle.carrier.proofs.perfect_carrier.PerfectCarrierCarrier.input.Goals as goal

pub returns-clause-trace : goal.returns-clause-trace
returns-clause-trace c t h =
    let e = c.take.ensures in
    subst (λ s. CarrierStands s (t ▷ In c.args.now c.args.datagram.now c.take.result)) (sym e.kept)
    (takes _ t c.args.now c.max-self-inside.result c.args.datagram.now c.take.result (subst (λ s. CarrierStands s t) (sym c.self.view_is) h) c.max-self-inside.ensures e.answer)

pub returns-clause-left : goal.returns-clause-left
returns-clause-left c =
    let e = c.take.ensures in
    let more = takes_more _ (bytes_of c.args.datagram.now) c.take.result in
    (more.0, ap (λ s. s.arrived) e.kept ∙ more.1 ∙ ap (λ s. s.arrived ++ more.0) c.self.view_is)
