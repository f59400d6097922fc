use Rattle.std.proofs.Common.{[], ◌∷◌, ◌++◌, ap, ◌∙◌}
use Rattle.mt_world.proofs.Steps.{opens}
use Rattle.mt_world.proofs.end.End.open_channel.Goals as goal

pub returns : goal.returns
returns c role p left handed s =
    let named = c.in_ok-push.ensures.items ∙ ap (λ x. c.args.self.now.names.items ++ x ∷ []) c.in_ok-kept.ensures in
    opens c.args.self.now c.push.new.self c.write_frame.new.queue role p left handed c.args.name.now named c.in_ok-write_frame.ensures c.requires.first s
