use Rattle.std.proofs.Common.{◌≡◌, sym, ◌∙◌}
use Rattle.mt_world.specs.Acts.{past, given, took, waiting}
use Rattle.mt_world.proofs.Steps.{on_ok}
use Rattle.mt_world.proofs.HandingOut.{waiting_is, hands_all_out}
use Rattle.mt_world.proofs.side.Side.hand_out.Goals as goal

pub returns : goal.returns
returns c role t s =
    let all : waiting 1 role t ≡ c.take_all-messages.result.items = waiting_is c.args.self.now.end role t s.end_is ∙ sym c.take_all-messages.ensures.messages in
    on_ok c.append.result (λ grown. hands_all_out c.args.self.now c.take_all-messages.new.self c.append.new.to role t _ c.take_all-messages.result.items all
    (c.take_all-messages.ensures.handed role (past role t) (given t) (took 1 t) s.end_is) grown s) c.append.ensures
