use Rattle.std.proofs.Common.{Err, refl, sym, subst}
use Rattle.carrier.specs.declared.state.Reason.TheVariants as reason
use Rattle.udp1_packets.specs.Views.{packet_of}
use Rattle.udp1_core.proofs.Shown.{shows_packet, shows_refusal}
use Rattle.udp1_core.proofs.Bodies.{body_fits}
use Rattle.lossy_mode.specs.LossyView.{Reads}
use Rattle.lossy_mode.proofs.contents.read_shown.Goals as goal

pub returns-in-Ok-clause-shows : goal.returns-in-Ok-clause-shows
returns-in-Ok-clause-shows c =
    subst (Reads c.shown_by.result) (sym (shows_packet c.args.datagram.now (packet_of c.in-Ok.packet) c.in-Ok.ensures.found)) c.shown_by.ensures.shows

pub returns-in-Ok-clause-fit : goal.returns-in-Ok-clause-fit
returns-in-Ok-clause-fit c =
    c.shown_by.ensures.fit c.in-Ok.ensures.found.is (body_fits c.args.datagram.now (packet_of c.in-Ok.packet) c.in-Ok.ensures.found c.requires)

pub returns-in-Err-clause-shows : goal.returns-in-Err-clause-shows
returns-in-Err-clause-shows c =
    subst (Reads (Err (reason.First c.in-Err.refusal))) (sym (shows_refusal c.args.datagram.now c.in-Err.refusal c.in-Err.ensures.refused)) refl
