use Rattle.mt_base.specs.declared.kinds.Role.TheVariants.{Server, Client}
use Rattle.udp_open.specs.TwoLinks.{lower_version}
use Rattle.udp_open.proofs.links.Opened.{agrees_in}
use Rattle.udp_open.proofs.links.JoinedMachines.{joined_machines, link_passed, link_pulled}
use Rattle.udp_open.proofs.joined.two_links.Goals as goal

pub returns-clause-agree : goal.returns-clause-agree
returns-clause-agree c late settings w h s = agrees_in late settings w h s

pub returns-clause-read : goal.returns-clause-read
returns-clause-read c late settings w h =
    let link = joined_machines late settings w h in (
      link.timely,
      c.links_join.ensures.read late (settings Server).initial (settings Client).initial (lower_version settings) _ link,
    )

pub returns-clause-arrive : goal.returns-clause-arrive
returns-clause-arrive c late settings w h s =
    c.links_join.ensures.arrive late (settings Server).initial (settings Client).initial (lower_version settings) _
    (joined_machines late settings w h) s

pub returns-clause-prefix : goal.returns-clause-prefix
returns-clause-prefix c late settings w h s =
    link_passed settings w s
    (c.links_join.ensures.prefix late (settings Server).initial (settings Client).initial (lower_version settings) _
    (joined_machines late settings w h) s)

pub returns-clause-pulled : goal.returns-clause-pulled
returns-clause-pulled c late settings w h s =
    link_pulled late settings w s h
    (c.links_join.ensures.pulled late (settings Server).initial (settings Client).initial (lower_version settings) _
    (joined_machines late settings w h) s)
