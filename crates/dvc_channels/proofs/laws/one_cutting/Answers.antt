use Rattle.std.proofs.Common.{sym}
use Rattle.dvc_channels.proofs.Making.{all_make}
use Rattle.dvc_channels.proofs.Cuts.{from_start}
use Rattle.dvc_channels.proofs.laws.one_cutting.Goals as goal

pub returns-clause-cut : goal.returns-clause-cut
returns-clause-cut c pieces h = from_start pieces h

pub returns-clause-one : goal.returns-clause-one
returns-clause-one c pieces whole part a =
    let m = all_make pieces whole part a in (sym m.messages_are, sym m.after_is)
