use Rattle.carrier.proofs.PerfectJoined.{bytes_arrive, pulled_arrive}
use Rattle.carrier.proofs.laws.perfect_bytes_arrive.Goals as goal

pub returns-clause-passed : goal.returns-clause-passed
returns-clause-passed c a b f h e = bytes_arrive a b f h e

pub returns-clause-pulled : goal.returns-clause-pulled
returns-clause-pulled c a b f h e = pulled_arrive a b f h e
