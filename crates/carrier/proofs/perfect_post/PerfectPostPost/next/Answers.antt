use Rattle.std.proofs.Common.{sym, subst}
use Rattle.carrier.specs.PerfectView.{PostStands}
use Rattle.carrier.proofs.PerfectThin.{hands_out}
use Rattle.carrier.proofs.perfect_post.PerfectPostPost.next.Goals as goal

pub returns-clause-trace : goal.returns-clause-trace
returns-clause-trace c t h =
    hands_out _ t _ _ (subst (λ s. PostStands s t) (sym c.self.view_is) h) c.put_first.ensures.bytes
