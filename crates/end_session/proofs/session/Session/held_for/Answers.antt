use Rattle.std.proofs.Common.{ap, ◌∙◌, is_some, arith}
use Rattle.mt_endpoint.specs.Holding.{held}
use Rattle.end_session.specs.contracts.session.Session.{the_view}
use Rattle.end_session.proofs.Kept.{fits_in, fits_not, held_where_open, if_room, not_lone}
use Rattle.end_session.proofs.session.Session.held_for.Goals as goal

pub returns-in-Reliable-clause-held : goal.returns-in-Reliable-clause-held
returns-in-Reliable-clause-held c t gone bytes len st =
    held_where_open c.args.self.now.role t c.args.kind bytes _ (held c.args.self.now.role c.args.kind t) c.channel_of.result (is_some c.if_open.result) c.in-Reliable.is c.channel_of.ensures (c.if_open.ensures.open_one t gone st)

pub returns-in_default-clause-held : goal.returns-in_default-clause-held
returns-in_default-clause-held c t gone bytes len st =
    not_lone c.args.self.now.role t c.args.kind bytes _ (held c.args.self.now.role c.args.kind t) c.lone_of.result c.in-Lossy.is c.lone_of.ensures.lone c.lone_of.ensures.other
    (c.if_open-in-Lossy.ensures.open_one t gone st ∙ ap is_some c.in_default.is)

pub returns-then-size-room-clause-held : goal.returns-then-size-room-clause-held
returns-then-size-room-clause-held c t gone bytes len st =
    if_room c.args.self.now t gone c.args.kind c.args.size c.in-Some.id bytes _ c.lone_of.result c.in-Lossy.is c.in-Some.ensures.found c.lone_of.ensures.lone c.lone_of.ensures.channel (c.in-Some.ensures.open_one t gone st) c.requires.ahead len st
    ∙ fits_in (the_view c.self.inside) c.args.self.now c.args.size c.room.result c.self.view_is (omega (arith, c.if-size-room.true)) c.room.ensures.within

pub returns-else-size-room-clause-held : goal.returns-else-size-room-clause-held
returns-else-size-room-clause-held c t gone bytes len st =
    if_room c.args.self.now t gone c.args.kind c.args.size c.in-Some.id bytes _ c.lone_of.result c.in-Lossy.is c.in-Some.ensures.found c.lone_of.ensures.lone c.lone_of.ensures.channel (c.in-Some.ensures.open_one t gone st) c.requires.ahead len st
    ∙ fits_not (the_view c.self.inside) c.args.self.now c.args.size c.room.result c.self.view_is (omega (arith, c.if-size-room.false)) c.room.ensures.within
