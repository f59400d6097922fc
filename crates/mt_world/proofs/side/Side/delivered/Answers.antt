use Rattle.std.proofs.Common.{[], ◌++◌, ap, ◌∙◌, subst}
use Rattle.play_report.specs.Tallying.{Counts}
use Rattle.mt_world.proofs.side.Side.delivered.Goals as goal

pub returns : goal.returns
returns c =
    let both = c.add_all-2.ensures _ (c.add_all.ensures [] c.new-tally.ensures) in
    subst (Counts c.add_all-2.new.tally) (ap (λ x. x ++ c.waiting.result.now) c.deref.ensures.value ∙ ap (λ x. c.args.self.now.received.items ++ x) c.waiting.ensures) both
