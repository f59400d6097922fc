use Rattle.end_session.proofs.Drawn.{missed}
use Rattle.end_session.proofs.session.Session.miss.Goals as goal

pub returns : goal.returns
returns c t gone st = missed c.args.self.now t gone st
