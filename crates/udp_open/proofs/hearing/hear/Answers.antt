use Rattle.std.proofs.Common.{sym, ap, ◌∙◌}
use Rattle.udp1_packets.specs.Views.{packet_of}
use Rattle.udp_open.specs.Handshake.{hears}
use Rattle.udp_open.proofs.Openings.{spelled_shows, fault_shows}
use Rattle.udp_open.proofs.hearing.hear.Goals as goal

pub returns-in-Ok-clause-value : goal.returns-in-Ok-clause-value
returns-in-Ok-clause-value c =
    c.heard.ensures.value
    ∙ sym (ap (hears c.args.settings.now c.args.agreement)
    (spelled_shows c.args.datagram.now (packet_of c.in-Ok.packet) c.if-datagram-gt-DATAGRAM.false c.in-Ok.ensures.found))

pub returns-in-Err-clause-value : goal.returns-in-Err-clause-value
returns-in-Err-clause-value c =
    sym (ap (hears c.args.settings.now c.args.agreement)
    (fault_shows c.args.datagram.now c.in-Err.refusal c.if-datagram-gt-DATAGRAM.false c.in-Err.ensures.refused))
