use Rattle.udp1_packets.proofs.Theorems.{written_spells, written_means}
use Rattle.udp1_packets.proofs.laws.written_is_read.Goals as goal

pub returns-clause-spells : goal.returns-clause-spells
returns-clause-spells c p is = written_spells p is

pub returns-clause-no_other : goal.returns-clause-no_other
returns-clause-no_other c p q is s = written_means p q is s
