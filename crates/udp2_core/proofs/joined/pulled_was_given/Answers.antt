use Rattle.mt_base.specs.declared.kinds.Role.TheVariants.{Server, Client}
use Rattle.udp2_core.proofs.SecondLinks.{machines_join}
use Rattle.udp2_core.proofs.joined.pulled_was_given.Goals as goal

pub returns-clause-client : goal.returns-clause-client
returns-clause-client c late w h =
    c.second_links_join.ensures.pulled late w (machines_join late _ _ w h) Server

pub returns-clause-server : goal.returns-clause-server
returns-clause-server c late w h =
    c.second_links_join.ensures.pulled late w (machines_join late _ _ w h) Client
