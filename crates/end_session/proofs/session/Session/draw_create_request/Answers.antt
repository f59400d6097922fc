use Rattle.end_session.proofs.Drawn.{request_ignored}
use Rattle.end_session.proofs.session.Session.draw_create_request.Goals as goal

pub returns-in-Lossy-clause-heard : goal.returns-in-Lossy-clause-heard
returns-in-Lossy-clause-heard c t gone at id cookie st = request_ignored c.args.self.now t gone c.args.kind at id cookie c.in-Lossy.is c.requires st
