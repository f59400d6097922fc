use Rattle.carrier.proofs.PartsJoined.{parts_arrive, handed_arrive}
use Rattle.carrier.proofs.laws.perfect_parts_arrive.Goals as goal

pub returns-clause-taken : goal.returns-clause-taken
returns-clause-taken c a b f h e = parts_arrive a b f h e

pub returns-clause-handed : goal.returns-clause-handed
returns-clause-handed c a b f h e = handed_arrive a b f h e
