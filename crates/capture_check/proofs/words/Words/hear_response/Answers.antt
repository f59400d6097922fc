use Rattle.std.proofs.Common.{ap}
use Rattle.dvc_pdus.specs.ListViews.{types_left}
use Rattle.capture_check.specs.Sayings.{taking}
use Rattle.capture_check.proofs.Speaking.{quiet_words}
use Rattle.capture_check.proofs.words.Words.hear_response.Goals as goal

pub returns-in-Server : goal.returns-in-Server
returns-in-Server c said are =
    quiet_words said c.args.self.now (taking c.args.side (types_left c.args.types)) (ap (λ s. taking s (types_left c.args.types)) c.in-Server.is) are
