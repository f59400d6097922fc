use Rattle.mt_world.proofs.Steps.{on_ok, sends}
use Rattle.mt_world.proofs.end.End.send.Goals as goal

pub returns : goal.returns
returns c role p left handed s =
    on_ok c.write_frame.result (λ grown. sends c.args.self.now c.write_frame.new.queue role p left handed c.args.message.now grown s) c.write_frame.ensures
