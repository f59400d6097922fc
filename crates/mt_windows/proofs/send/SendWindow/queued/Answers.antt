use Rattle.std.proofs.Common.{◌∙◌}
use Rattle.mt_windows.proofs.InFlight.{queued_is}
use Rattle.mt_windows.proofs.send.SendWindow.queued.Goals as goal

pub returns-clause-history : goal.returns-clause-history
returns-clause-history g c first t h =
    c.kept_bytes.ensures.value ∙ queued_is c.args.self.now first t h c.kept_bytes.ensures.places c.kept_bytes.ensures.base
