use Rattle.std.proofs.Common.{ap, ◌∙◌, cond, eqb}
use Rattle.mt_world.proofs.Steps.{answer_is_read}
use Rattle.mt_world.proofs.end.End.read_answer.Goals as goal

pub returns : goal.returns
returns c role p left handed s =
    let after = c.state_after-self.ensures ∙ ap (λ x. cond (eqb c.args.id 1) x c.args.self.now.channel) c.answered.ensures in
    answer_is_read c.args.self.now c.state_after-self.result role p left handed c.args.id c.args.status after s
