use Rattle.std.proofs.Common.{refl}
use Rattle.dvc_pdus.specs.Value.{Pdu}
use Rattle.dvc_channels.specs.Fragments.{room}
use Rattle.dvc_channels.proofs.Fewest.{fragments_carry, fragments_full, fewest}
use Rattle.dvc_channels.proofs.laws.fragments_are_fewest.Goals as goal

pub returns-clause-carried : goal.returns-clause-carried
returns-clause-carried c id message = fragments_carry id message

pub returns-clause-full : goal.returns-clause-full
returns-clause-full c id message before last e = fragments_full id message before last e

pub returns-clause-fewest : goal.returns-clause-fewest
returns-clause-fewest c id message pdus carried = fewest id (room id) pdus _ message refl carried.each refl carried.pieces
