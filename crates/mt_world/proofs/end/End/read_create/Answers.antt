use Rattle.mt_world.proofs.Steps.{on_ok, create_is_read}
use Rattle.mt_world.proofs.end.End.read_create.Goals as goal

pub returns : goal.returns
returns c role p left handed s =
    on_ok c.write_frame.result (λ grown priority name. create_is_read c.args.self.now c.state_after-self.result c.write_frame.new.queue role p left handed c.args.id priority name c.state_after-self.ensures grown s) c.write_frame.ensures
