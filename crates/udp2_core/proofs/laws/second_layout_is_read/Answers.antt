use Rattle.udp2_core.proofs.Sizes.{short_enough}
use Rattle.udp2_core.proofs.SecondLinks.{second_lawful}
use Rattle.udp2_core.proofs.laws.second_layout_is_read.Goals as goal

pub returns-clause-reads : goal.returns-clause-reads
returns-clause-reads c = second_lawful

pub returns-clause-with_telling : goal.returns-clause-with_telling
returns-clause-with_telling c r above telling floor load is =
    short_enough 300 50 1 1 r above telling floor load is
