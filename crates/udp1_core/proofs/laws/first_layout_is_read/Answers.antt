use Rattle.std.proofs.Common.{refl}
use Rattle.udp1_core.proofs.Sizes.{short_enough}
use Rattle.udp1_core.proofs.FirstIsLayout.{is_layout}
use Rattle.udp1_core.proofs.laws.first_layout_is_read.Goals as goal

pub returns-clause-reads : goal.returns-clause-reads
returns-clause-reads c wait delay own peer some_own some_peer =
    is_layout wait delay own peer some_own some_peer

pub returns-clause-named : goal.returns-clause-named
returns-clause-named c wait delay own peer r above = refl

pub returns-clause-with_telling : goal.returns-clause-with_telling
returns-clause-with_telling c wait delay own peer r above tells floor load is =
    short_enough wait delay own peer r above tells floor load is
