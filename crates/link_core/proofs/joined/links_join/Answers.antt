use Rattle.link_core.specs.JoinedCores.{link_layouts}
use Rattle.link_core.proofs.Links.{margins, net}
use Rattle.link_core.proofs.joined.links_join.Goals as goal

pub returns-clause-margins : goal.returns-clause-margins
returns-clause-margins c late server client version server_number client_number in_time =
    margins late server client version server_number client_number in_time

pub returns-clause-read : goal.returns-clause-read
returns-clause-read c late server client version w h =
    c.joined_links.ensures.read late (link_layouts server client version) w (net late server client version w h)

pub returns-clause-arrive : goal.returns-clause-arrive
returns-clause-arrive c late server client version w h s =
    c.joined_links.ensures.arrive late (link_layouts server client version) w (net late server client version w h) s

pub returns-clause-prefix : goal.returns-clause-prefix
returns-clause-prefix c late server client version w h s =
    c.joined_links.ensures.prefix late (link_layouts server client version) w (net late server client version w h) s

pub returns-clause-pulled : goal.returns-clause-pulled
returns-clause-pulled c late server client version w h s =
    c.joined_links.ensures.pulled late (link_layouts server client version) w (net late server client version w h) s

pub returns-clause-apart : goal.returns-clause-apart
returns-clause-apart c late server client version w h s =
    c.joined_links.ensures.apart late (link_layouts server client version) w (net late server client version w h) s

pub returns-clause-ahead : goal.returns-clause-ahead
returns-clause-ahead c late server client version w h s =
    c.joined_links.ensures.ahead late (link_layouts server client version) w (net late server client version w h) s

pub returns-clause-seen : goal.returns-clause-seen
returns-clause-seen c late server client version w h s =
    c.joined_links.ensures.seen late (link_layouts server client version) w (net late server client version w h) s

pub returns-clause-known : goal.returns-clause-known
returns-clause-known c late server client version w h s =
    c.joined_links.ensures.known late (link_layouts server client version) w (net late server client version w h) s
