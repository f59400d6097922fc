use Rattle.linked_ends.proofs.Staying.{all_stay}
use Rattle.linked_ends.proofs.laws.links_stay_as_they_were_made.Goals as goal

pub returns : goal.returns
returns c settings old new kept u = all_stay settings old new kept u
