use Rattle.std.proofs.Common.{[], ◌∷◌, ◌++◌, ap, ◌∙◌, eq-eqb, ne_eqb}
use Rattle.mt_world.proofs.Steps.{message_is_read, other_is_read}
use Rattle.mt_world.proofs.end.End.read_data.Goals as goal

pub returns-then-id-ne-CHANNEL : goal.returns-then-id-ne-CHANNEL
returns-then-id-ne-CHANNEL c role p left handed s =
    other_is_read c.args.self.now role p left handed c.args.id c.args.bytes.now (ne_eqb c.args.id 1 c.if-id-ne-CHANNEL.true) s

pub returns : goal.returns
returns c role p left handed s =
    let kept = c.in_ok-push.ensures.items ∙ ap (λ x. c.args.self.now.inbox.items ++ x ∷ []) c.in_ok-message.ensures in
    message_is_read c.args.self.now c.push.new.self role p left handed c.args.id c.args.bytes.now (eq-eqb c.args.id 1 c.if-id-ne-CHANNEL.false) kept s
