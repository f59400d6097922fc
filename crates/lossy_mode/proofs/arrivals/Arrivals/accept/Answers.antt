use Rattle.std.proofs.Common.{[], ◌∷◌, ◌++◌, ap, ◌∙◌}
use Rattle.lossy_mode.specs.LossyView.{Arrivals}
use Rattle.lossy_mode.proofs.arrivals.Arrivals.accept.Goals as goal

pub returns-clause-parts : goal.returns-clause-parts
returns-clause-parts c =
    (c.args.bytes.now ∷ [], c.push.ensures ∙ ap (λ (s : Arrivals). s.parts ++ c.args.bytes.now ∷ []) c.self.view_is)
