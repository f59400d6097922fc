use Rattle.mt_base.specs.declared.kinds.Role.TheVariants.{Server, Client}
use Rattle.link_core.proofs.Links.{cores_join}
use Rattle.link_core.proofs.joined.pulled_was_given.Goals as goal

pub returns-clause-client : goal.returns-clause-client
returns-clause-client c late a b version w h =
    c.links_join.ensures.pulled late a b version w (cores_join late a b version _ _ w h) Server

pub returns-clause-server : goal.returns-clause-server
returns-clause-server c late a b version w h =
    c.links_join.ensures.pulled late a b version w (cores_join late a b version _ _ w h) Client
