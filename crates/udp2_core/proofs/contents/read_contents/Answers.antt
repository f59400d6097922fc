use Rattle.std.proofs.Common.{ap, ◌∙◌}
use Rattle.udp2_packets.specs.Views.{packet_of}
use Rattle.udp2_core.specs.SecondLayout.{packet_shows}
use Rattle.udp2_core.proofs.Bodies.{body_fits}
use Rattle.udp2_core.proofs.contents.read_contents.Goals as goal

pub returns-in-Ok-clause-shows : goal.returns-in-Ok-clause-shows
returns-in-Ok-clause-shows c = ap packet_shows c.in-Ok.ensures.exact ∙ c.contents_of.ensures.shows

pub returns-in-Ok-clause-fit : goal.returns-in-Ok-clause-fit
returns-in-Ok-clause-fit c =
    c.contents_of.ensures.fit
    (body_fits c.args.datagram.now (packet_of c.in-Ok.packet) c.in-Ok.ensures.found)

pub returns-in-Err-clause-shows : goal.returns-in-Err-clause-shows
returns-in-Err-clause-shows c = ap packet_shows c.in-Err.ensures.exact
