use Rattle.std.proofs.Common.{◌∙◌, sym, ap, subst, ◌++◌}
use Rattle.mt_base.specs.Trace.{◌▷◌}
use Rattle.carrier.specs.Entries.{In}
use Rattle.carrier.specs.Perfect.{bytes_of, number_of}
use Rattle.carrier.specs.PerfectView.{PostStands}
use Rattle.carrier.proofs.PerfectThin.{post_takes, post_takes_more}
use Rattle.carrier.proofs.perfect_post.PerfectPostPost.input.Goals as goal

pub returns-clause-trace : goal.returns-clause-trace
returns-clause-trace c t h =
    let e = c.take.ensures in
    subst (λ s. PostStands s (t ▷ In c.args.now c.args.datagram.now c.take.result)) (sym e.kept)
    (post_takes _ t c.args.now c.max-self-inside.result c.args.datagram.now c.take.result (subst (λ s. PostStands s t) (sym c.self.view_is) h) c.max-self-inside.ensures e.answer)

pub returns-clause-left : goal.returns-clause-left
returns-clause-left c =
    let e = c.take.ensures in
    let more = post_takes_more _ (number_of c.args.datagram.now) (bytes_of c.args.datagram.now) c.take.result in
    (more.0, ap (λ s. s.arrived) e.kept ∙ more.1 ∙ ap (λ s. s.arrived ++ more.0) c.self.view_is)
