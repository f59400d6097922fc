use Rattle.std.proofs.Common.{ap, ◌∙◌, length}
use Rattle.link_traffic.proofs.Places.{places-length}
use Rattle.link_traffic.proofs.traffic.Traffic.given.Goals as goal

pub returns : goal.returns
returns c = ap length c.places.ensures ∙ places-length 0 c.args.side c.args.self.now
