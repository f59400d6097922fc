use Rattle.std.proofs.Common.{sym}
use Rattle.mt_world.proofs.Names.{name_from_no_fault}
use Rattle.mt_world.proofs.end.End.open_cause.Goals as goal

pub returns-clause-name : goal.returns-clause-name
returns-clause-name c none = name_from_no_fault c.args.name.now (sym c.in_default.ensures)
