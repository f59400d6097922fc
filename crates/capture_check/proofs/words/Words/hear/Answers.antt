use Rattle.std.proofs.Common.{ap}
use Rattle.tunnel_pdus.specs.Views.{frame_of}
use Rattle.capture_check.specs.Sayings.{saying_of}
use Rattle.capture_check.proofs.Speaking.{quiet}
use Rattle.capture_check.proofs.words.Words.hear.Goals as goal

pub returns-in-Request-clause-kept : goal.returns-in-Request-clause-kept
returns-in-Request-clause-kept c said are held = quiet said c.args.self.now (saying_of c.args.side (frame_of c.args.frame)) (ap (λ f. saying_of c.args.side (frame_of f)) c.in-Request.is) are

pub returns-in-Response-clause-kept : goal.returns-in-Response-clause-kept
returns-in-Response-clause-kept c said are held = quiet said c.args.self.now (saying_of c.args.side (frame_of c.args.frame)) (ap (λ f. saying_of c.args.side (frame_of f)) c.in-Response.is) are
