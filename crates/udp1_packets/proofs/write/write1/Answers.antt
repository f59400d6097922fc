use Rattle.udp1_packets.specs.Views.{packet_of}
use Rattle.udp1_packets.proofs.Theorems.{fits_by}
use Rattle.udp1_packets.proofs.write.write1.Goals as goal

pub returns-clause-fits : goal.returns-clause-fits
returns-clause-fits c = fits_by (packet_of c.args.packet.now) c.args.out.now c.write.result c.write.ensures.no_room
