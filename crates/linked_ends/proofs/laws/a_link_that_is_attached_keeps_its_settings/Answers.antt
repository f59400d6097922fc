use Rattle.linked_ends.proofs.Staying.{with_lossy, with_reliable}
use Rattle.linked_ends.proofs.laws.a_link_that_is_attached_keeps_its_settings.Goals as goal

pub returns-clause-reliable : goal.returns-clause-reliable
returns-clause-reliable c settings side l old new keeps has same is u = with_reliable settings side l old new keeps has same is u

pub returns-clause-lossy : goal.returns-clause-lossy
returns-clause-lossy c settings side l old new keeps has same is u = with_lossy settings side l old new keeps has same is u
