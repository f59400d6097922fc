use Rattle.carrier.proofs.links.AllCalls.{ends, all_read, arrive, prefix, pulled_too, apart, ahead, seen_made, known_seen}
use Rattle.carrier.proofs.two_links.joined_links.Goals as goal

pub returns-clause-read : goal.returns-clause-read
returns-clause-read c late layouts w net = all_read late layouts net.margins w net.faithful net.timely

pub returns-clause-arrive : goal.returns-clause-arrive
returns-clause-arrive c late layouts w net = arrive late layouts net.margins w (ends late layouts net.margins w net.faithful net.timely)

pub returns-clause-prefix : goal.returns-clause-prefix
returns-clause-prefix c late layouts w net = prefix late layouts net.margins w (ends late layouts net.margins w net.faithful net.timely)

pub returns-clause-pulled : goal.returns-clause-pulled
returns-clause-pulled c late layouts w net = pulled_too late layouts net.margins w net.faithful (ends late layouts net.margins w net.faithful net.timely)

pub returns-clause-apart : goal.returns-clause-apart
returns-clause-apart c late layouts w net = apart late layouts net.margins w (ends late layouts net.margins w net.faithful net.timely)

pub returns-clause-ahead : goal.returns-clause-ahead
returns-clause-ahead c late layouts w net = ahead late layouts net.margins w (ends late layouts net.margins w net.faithful net.timely)

pub returns-clause-seen : goal.returns-clause-seen
returns-clause-seen c late layouts w net = seen_made late layouts net.margins w (ends late layouts net.margins w net.faithful net.timely)

pub returns-clause-known : goal.returns-clause-known
returns-clause-known c late layouts w net = known_seen late layouts net.margins w (ends late layouts net.margins w net.faithful net.timely)
