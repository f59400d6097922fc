use Rattle.std.proofs.Common.{◌∙◌}
use Rattle.mt_windows.proofs.InFlight.{may_cut_is}
use Rattle.mt_windows.proofs.send.SendWindow.may_cut.Goals as goal

pub returns-clause-history : goal.returns-clause-history
returns-clause-history g c first t h =
    c.has_room.ensures.value ∙ may_cut_is c.args.self.now first t c.args.window h c.has_room.ensures.base
