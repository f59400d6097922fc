use Rattle.std.proofs.Common.{sym}
use Rattle.std.proofs.Math.Seq.{take-add}
use Rattle.mt_windows.specs.Arrived.{passed}
use Rattle.mt_windows.proofs.Order.{verdict_new, with_part_adds}
use Rattle.mt_windows.proofs.laws.parts_arrive_once.Goals as goal

pub returns-clause-once : goal.returns-clause-once
returns-clause-once c window first parts n part h = (verdict_new window first parts n part h).1

pub returns-clause-within : goal.returns-clause-within
returns-clause-within c window first parts n part h = (verdict_new window first parts n part h).0

pub returns-clause-adds : goal.returns-clause-adds
returns-clause-adds c window first parts n part bytes = with_part_adds window first parts n part bytes

pub returns-clause-goes_on : goal.returns-clause-goes_on
returns-clause-goes_on c parts n r = sym (take-add n r (passed parts))
