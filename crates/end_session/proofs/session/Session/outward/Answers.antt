use Rattle.std.proofs.Common.{◌∙◌}
use Rattle.end_session.specs.contracts.session.Session.{the_view}
use Rattle.end_session.proofs.Readings.{outward_stands}
use Rattle.end_session.proofs.session.Session.outward.Goals as goal

pub returns : goal.returns
returns c t gone st = c.outward.ensures ∙ outward_stands (the_view c.self.inside) c.args.self.now t gone c.args.id c.self.view_is st
