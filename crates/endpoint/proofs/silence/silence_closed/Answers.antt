use Rattle.endpoint.proofs.Idle.{where_closed}
use Rattle.endpoint.proofs.silence.silence_closed.Goals as goal

pub returns-in-Closed : goal.returns-in-Closed
returns-in-Closed c role p gone i = where_closed role c.args.kind c.in-Closed.expiries c.args.state p gone c.silence_once.new.session c.in-Closed.is (c.silence_once.ensures role p gone i)
