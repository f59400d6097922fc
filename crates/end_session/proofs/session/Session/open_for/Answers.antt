use Rattle.std.proofs.Common.{is_some}
use Rattle.mt_endpoint.specs.Holding.{held}
use Rattle.end_session.proofs.Kept.{held_where_open}
use Rattle.end_session.proofs.Passed.{held_behind}
use Rattle.end_session.proofs.Reread.{reliable_alone}
use Rattle.end_session.proofs.session.Session.open_for.Goals as goal

pub returns-in-Reliable-clause-held : goal.returns-in-Reliable-clause-held
returns-in-Reliable-clause-held c t gone bytes st =
    held_where_open c.args.self.now.role t c.args.kind bytes _ (held c.args.self.now.role c.args.kind t) c.channel_of.result (is_some c.if_open.result) c.in-Reliable.is c.channel_of.ensures (c.if_open.ensures.open_one t gone st)

pub returns-in-Lossy-clause-held : goal.returns-in-Lossy-clause-held
returns-in-Lossy-clause-held c t gone bytes st =
    held_behind c.args.self.now t gone c.args.kind bytes _ c.lone_of.result (is_some c.if_open-in-Lossy.result) c.in-Lossy.is c.requires c.lone_of.ensures.lone c.lone_of.ensures.other c.lone_of.ensures.channel
    (c.if_open-in-Lossy.ensures.open_one t gone st) st

pub returns-in-Lossy-clause-ending : goal.returns-in-Lossy-clause-ending
returns-in-Lossy-clause-ending c = reliable_alone c.args.kind _ c.lone_of.result c.if_open-in-Lossy.result c.if_open-in-Lossy.ensures.found c.lone_of.ensures.lone
