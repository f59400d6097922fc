use Rattle.linked_ends.proofs.Staying.{made_lossy_with, made_with}
use Rattle.linked_ends.proofs.laws.a_new_link_keeps_its_settings.Goals as goal

pub returns-clause-reliable : goal.returns-clause-reliable
returns-clause-reliable c settings l is = made_with settings l is

pub returns-clause-lossy : goal.returns-clause-lossy
returns-clause-lossy c settings l is = made_lossy_with settings l is
