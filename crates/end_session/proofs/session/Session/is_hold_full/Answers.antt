use Rattle.std.proofs.Common.{ℕ, ap, ◌∙◌}
use Rattle.end_session.specs.Store.{Store}
use Rattle.end_session.specs.contracts.session.Session.{the_view}
use Rattle.end_session.proofs.HeldRoom.{full_is, is_within}
use Rattle.end_session.proofs.session.Session.is_hold_full.Goals as goal

pub returns-clause-acts : goal.returns-clause-acts
returns-clause-acts c t gone st = full_is (the_view c.self.inside) c.args.self.now t gone c.room.result c.self.view_is c.room.ensures.within st

pub returns-clause-within : goal.returns-clause-within
returns-clause-within c t gone kind st =
    is_within (the_view c.self.inside) c.args.self.now t gone kind c.room.result c.room-lossy.result c.self.view_is c.room.ensures.within c.room-lossy.ensures.within st
