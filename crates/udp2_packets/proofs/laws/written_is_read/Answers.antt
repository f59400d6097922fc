use Rattle.udp2_packets.proofs.Theorems.{written_spells, written_is_read}
use Rattle.udp2_packets.proofs.laws.written_is_read.Goals as goal

pub returns-clause-spells : goal.returns-clause-spells
returns-clause-spells c p is short = written_spells p is short

pub returns-clause-read : goal.returns-clause-read
returns-clause-read c p is = written_is_read p is
