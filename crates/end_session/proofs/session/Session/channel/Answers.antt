use Rattle.end_session.specs.contracts.session.Session.{the_view}
use Rattle.end_session.proofs.Readings.{channel_stands}
use Rattle.end_session.proofs.session.Session.channel.Goals as goal

pub returns : goal.returns
returns c t gone st = channel_stands (the_view c.self.inside) c.args.self.now t gone c.args.id c.state.result c.self.view_is c.state.ensures st
