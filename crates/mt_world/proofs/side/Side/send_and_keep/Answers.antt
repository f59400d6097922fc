use Rattle.std.proofs.Common.{[], ◌∷◌, ◌++◌, ap, ◌∙◌}
use Rattle.mt_world.specs.Acts.{past, given, took}
use Rattle.mt_world.proofs.side.Side.send_and_keep.Goals as goal

pub returns : goal.returns
returns c role t s = record {
  end_is = c.in_ok-send.ensures role (past role t) (given t) (took 1 t) s.end_is;
  sent_are = c.in_ok-push.ensures.items ∙ ap (λ x. c.args.self.now.sent.items ++ x ∷ []) c.in_ok-kept.ensures ∙ ap (λ x. x ++ c.args.message.now ∷ []) s.sent_are;
  received_are = s.received_are;
  arrived_is = s.arrived_is;
}
