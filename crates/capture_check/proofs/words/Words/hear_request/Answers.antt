use Rattle.std.proofs.Common.{ap}
use Rattle.dvc_pdus.specs.ListViews.{lists_left}
use Rattle.capture_check.specs.Sayings.{moving}
use Rattle.capture_check.proofs.Speaking.{quiet_words}
use Rattle.capture_check.proofs.words.Words.hear_request.Goals as goal

pub returns-in-Client : goal.returns-in-Client
returns-in-Client c said are =
    quiet_words said c.args.self.now (moving c.args.side (lists_left c.args.lists)) (ap (λ s. moving s (lists_left c.args.lists)) c.in-Client.is) are
