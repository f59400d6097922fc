use Rattle.mt_base.specs.declared.kinds.Role.TheVariants.{Server, Client}
use Rattle.mt_world.specs.Net.{at}
use Rattle.mt_world.proofs.Steps.{on_ok}
use Rattle.mt_world.proofs.Sides.{hands_all_out}
use Rattle.mt_world.proofs.world.World.hand_out.Goals as goal

pub returns : goal.returns
returns c w s =
    on_ok c.hand_out-2.result (λ client. hands_all_out _ w (c.in_ok-hand_out.ensures Server (at Server w) s.server) client)
    (c.hand_out-2.ensures Client (at Client w) s.client)
