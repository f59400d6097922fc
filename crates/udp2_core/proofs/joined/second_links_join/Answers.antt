use Rattle.udp2_core.specs.SecondLink.{second_layouts}
use Rattle.udp2_core.proofs.SecondLinks.{margins, net}
use Rattle.udp2_core.proofs.joined.second_links_join.Goals as goal

pub returns-clause-margins : goal.returns-clause-margins
returns-clause-margins c late in_time = margins late in_time

pub returns-clause-read : goal.returns-clause-read
returns-clause-read c late w h = c.joined_links.ensures.read late second_layouts w (net late w h)

pub returns-clause-arrive : goal.returns-clause-arrive
returns-clause-arrive c late w h s = c.joined_links.ensures.arrive late second_layouts w (net late w h) s

pub returns-clause-prefix : goal.returns-clause-prefix
returns-clause-prefix c late w h s = c.joined_links.ensures.prefix late second_layouts w (net late w h) s

pub returns-clause-pulled : goal.returns-clause-pulled
returns-clause-pulled c late w h s = c.joined_links.ensures.pulled late second_layouts w (net late w h) s

pub returns-clause-apart : goal.returns-clause-apart
returns-clause-apart c late w h s = c.joined_links.ensures.apart late second_layouts w (net late w h) s

pub returns-clause-ahead : goal.returns-clause-ahead
returns-clause-ahead c late w h s = c.joined_links.ensures.ahead late second_layouts w (net late w h) s

pub returns-clause-seen : goal.returns-clause-seen
returns-clause-seen c late w h s = c.joined_links.ensures.seen late second_layouts w (net late w h) s

pub returns-clause-known : goal.returns-clause-known
returns-clause-known c late w h s = c.joined_links.ensures.known late second_layouts w (net late w h) s
