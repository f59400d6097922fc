use Rattle.lossy_mode.proofs.JoinedLossy.{agrees_in, handed_picked, kind_in, picked}
use Rattle.lossy_mode.proofs.joined.lossy_links_join.Goals as goal

pub returns-clause-agree : goal.returns-clause-agree
returns-clause-agree c late settings w h s = agrees_in late settings w h s

pub returns-clause-kind : goal.returns-clause-kind
returns-clause-kind c late settings w h s = kind_in late settings w h s

pub returns-clause-accepted : goal.returns-clause-accepted
returns-clause-accepted c late settings w h s = picked late settings w h s

pub returns-clause-handed : goal.returns-clause-handed
returns-clause-handed c late settings w h s = handed_picked late settings w h s
