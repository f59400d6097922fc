use Rattle.std.proofs.Common.{ap}
use Rattle.dvc_pdus.specs.Reading.{reading}
use Rattle.capture_check.specs.Sayings.{said_in}
use Rattle.capture_check.proofs.Speaking.{quiet}
use Rattle.capture_check.proofs.words.Words.hear_channel.Goals as goal

pub returns-in-Err-clause-kept : goal.returns-in-Err-clause-kept
returns-in-Err-clause-kept c said are held = quiet said c.args.self.now (said_in c.args.side (reading c.args.side c.args.bytes.now)) (ap (said_in c.args.side) c.in-Err.ensures.exact) are
