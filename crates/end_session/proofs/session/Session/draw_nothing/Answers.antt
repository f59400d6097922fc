use Rattle.end_session.proofs.Drawn.{nothing_drawn}
use Rattle.end_session.proofs.session.Session.draw_nothing.Goals as goal

pub returns : goal.returns
returns c t gone kind at st = nothing_drawn c.args.self.now t gone kind at st
