use Rattle.mt_base.specs.declared.kinds.Role.TheVariants.{Server, Client}
use Rattle.udp_open.proofs.links.Joined.{links_join}
use Rattle.udp_open.proofs.joined.pulled_was_given.Goals as goal

pub returns-clause-client : goal.returns-clause-client
returns-clause-client c late w h =
    c.two_links.ensures.pulled late _ w (links_join late c.args.server.now c.args.client.now w h) Server

pub returns-clause-server : goal.returns-clause-server
returns-clause-server c late w h =
    c.two_links.ensures.pulled late _ w (links_join late c.args.server.now c.args.client.now w h) Client
